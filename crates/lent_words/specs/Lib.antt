pub mod PutEffects
