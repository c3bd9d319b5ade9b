pub mod StepReasons
pub mod CallReasons
