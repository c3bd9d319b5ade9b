-- `store::points::list_fits` meets its contract. Assumes nothing.
use Rattle.store.proofs.StepPlaces.{in_list}
use Rattle.store.proofs.points.list_fits.Goals as goal

pub returns-then-names_list : goal.returns-then-names_list
returns-then-names_list c = λ xs s. in_list _ c.args.own xs s c.args.x _ _ _ (c.names_list.ensures xs s) c.if-names_list.true c.list_of.ensures c.point_fits.ensures
