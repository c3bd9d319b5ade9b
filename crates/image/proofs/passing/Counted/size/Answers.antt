-- `image::passing::Counted::size` meets its contract. Assumes nothing.
use borrow.Author.Rules.{rules}
use Rattle.image.proofs.Sizes.{size-at}
use Rattle.image.proofs.passing.Counted.size.Goals as goal

pub returns : goal.returns
returns c =
    let s = c.args.self.now in
    search (rules, size-at s.image.now s.sizes c.args.t s.sizes_are)
