-- `image::passing::Counted::table_both` meets its contract. Assumes nothing.
use mathlib.Core.Path.{◌≡◌, refl, sym, ◌∙◌}
use native.Mathlib.Omega.{arith}
use Rattle.std.proofs.Common.{rules}
use Rattle.std.proofs.lemmas.Iterator.{YieldsList-from_slice}
use Rattle.std.proofs.lemmas.Iterator.Adapters.{serves_from_places}
use Rattle.std.proofs.lemmas.Iterator.Consumers.{YieldsList-at, YieldsList-from_enumerate}
use Rattle.std.proofs.lemmas.Iterator.Search.{all_from_yields_List}
use Rattle.model.specs.Image.{width_of, table_of}
use Rattle.image.specs.Passing.{record_both}
use Rattle.image.specs.Tables.{number_of}
use Rattle.image.proofs.Padding.{kinded, numbered}
use Rattle.image.proofs.OnePass.{kind-width}
use Rattle.image.proofs.Chunks.{chunk-record, chunks-tested}
use Rattle.image.proofs.passing.Counted.table_both.Goals as goal

pub all-requires-clause-callable : goal.all-requires-clause-callable
unfolding width_of
all-requires-clause-callable c =
    let s = c.args.self.now in
    let img = s.image.now in
    let l = c.table-words.result.now in
    let words : l ≡ table_of img 0 = rw c.in-Rules.is at c.table-words.ensures in
    let road = YieldsList-from_enumerate (YieldsList-at c.enumerate.ensures.source (YieldsList-from_slice _ (c.iter.ensures.rest ∙ c.as_chunks.ensures.front))) c.enumerate.ensures.count in
    serves_from_places road (λ x q k. search rules) (λ x i h e. let it = chunk-record img s.placed 0 (omega arith) 16 refl l words (x.0, x.1.now) i h e in search (rules, it))

pub returns-in-Rules : goal.returns-in-Rules
unfolding width_of
returns-in-Rules c =
    let s = c.args.self.now in
    let img = s.image.now in
    let l = c.table-words.result.now in
    let words : l ≡ table_of img 0 = rw c.in-Rules.is at c.table-words.ensures in
    let road = YieldsList-from_enumerate (YieldsList-at c.enumerate.ensures.source (YieldsList-from_slice _ (c.iter.ensures.rest ∙ c.as_chunks.ensures.front))) c.enumerate.ensures.count in
    rw c.in-Rules.is
    (all_from_yields_List (λ q. record_both img 0 q.0) c.all.new.self _ c.all.result c.all.ensures.ran road (λ x b q k. search rules) ∙ chunks-tested img s.placed 0 (omega arith) 16 refl l words)

pub all-requires-in-Blocks-clause-callable : goal.all-requires-in-Blocks-clause-callable
unfolding width_of
all-requires-in-Blocks-clause-callable c =
    let s = c.args.self.now in
    let img = s.image.now in
    let l = c.table-words.result.now in
    let words : l ≡ table_of img 1 = rw c.in-Blocks.is at c.table-words.ensures in
    let road = YieldsList-from_enumerate (YieldsList-at c.enumerate-in-Blocks.ensures.source (YieldsList-from_slice _ (c.iter-in-Blocks.ensures.rest ∙ c.as_chunks-in-Blocks.ensures.front))) c.enumerate-in-Blocks.ensures.count in
    serves_from_places road (λ x q k. search rules) (λ x i h e. let it = chunk-record img s.placed 1 (omega arith) 8 refl l words (x.0, x.1.now) i h e in search (rules, it))

pub returns-in-Blocks : goal.returns-in-Blocks
unfolding width_of
returns-in-Blocks c =
    let s = c.args.self.now in
    let img = s.image.now in
    let l = c.table-words.result.now in
    let words : l ≡ table_of img 1 = rw c.in-Blocks.is at c.table-words.ensures in
    let road = YieldsList-from_enumerate (YieldsList-at c.enumerate-in-Blocks.ensures.source (YieldsList-from_slice _ (c.iter-in-Blocks.ensures.rest ∙ c.as_chunks-in-Blocks.ensures.front))) c.enumerate-in-Blocks.ensures.count in
    rw c.in-Blocks.is
    (all_from_yields_List (λ q. record_both img 1 q.0) c.all-in-Blocks.new.self _ c.all-in-Blocks.result c.all-in-Blocks.ensures.ran road (λ x b q k. search rules) ∙ chunks-tested img s.placed 1 (omega arith) 8 refl l words)

pub all-requires-in-Pool-clause-callable : goal.all-requires-in-Pool-clause-callable
unfolding width_of
all-requires-in-Pool-clause-callable c =
    let s = c.args.self.now in
    let img = s.image.now in
    let l = c.table-words.result.now in
    let words : l ≡ table_of img 7 = rw c.in-Pool.is at c.table-words.ensures in
    let road = YieldsList-from_enumerate (YieldsList-at c.enumerate-in-Pool.ensures.source (YieldsList-from_slice _ (c.iter-in-Pool.ensures.rest ∙ c.as_chunks-in-Pool.ensures.front))) c.enumerate-in-Pool.ensures.count in
    serves_from_places road (λ x q k. search rules) (λ x i h e. let it = chunk-record img s.placed 7 (omega arith) 1 refl l words (x.0, x.1.now) i h e in search (rules, it))

pub returns-in-Pool : goal.returns-in-Pool
unfolding width_of
returns-in-Pool c =
    let s = c.args.self.now in
    let img = s.image.now in
    let l = c.table-words.result.now in
    let words : l ≡ table_of img 7 = rw c.in-Pool.is at c.table-words.ensures in
    let road = YieldsList-from_enumerate (YieldsList-at c.enumerate-in-Pool.ensures.source (YieldsList-from_slice _ (c.iter-in-Pool.ensures.rest ∙ c.as_chunks-in-Pool.ensures.front))) c.enumerate-in-Pool.ensures.count in
    rw c.in-Pool.is
    (all_from_yields_List (λ q. record_both img 7 q.0) c.all-in-Pool.new.self _ c.all-in-Pool.result c.all-in-Pool.ensures.ran road (λ x b q k. search rules) ∙ chunks-tested img s.placed 7 (omega arith) 1 refl l words)

pub all-requires-in_default : goal.all-requires-in_default
all-requires-in_default c =
    let s = c.args.self.now in
    let img = s.image.now in
    let d = c.in_default in
    let k = kinded c.args.t d.not-Rules d.not-Blocks d.not-Pool in
    let wide : 8 ≡ width_of (number_of c.args.t) = sym (kind-width (number_of c.args.t) k.0 k.1) in
    let l = c.table-words.result.now in
    let road = YieldsList-from_enumerate (YieldsList-at c.enumerate-in_default.ensures.source (YieldsList-from_slice _ (c.iter-in_default.ensures.rest ∙ c.as_chunks-in_default.ensures.front))) c.enumerate-in_default.ensures.count in
    record {
      can = search rules;
      finite = tt;
      callable = serves_from_places road (λ x q k. search rules) (λ x i h e. λ κs r g m n q u. (k, chunk-record img s.placed (number_of c.args.t) (numbered c.args.t) 8 wide l c.table-words.ensures (x.0, x.1.now) i h e));
    }

pub returns-in_default : goal.returns-in_default
returns-in_default c =
    let s = c.args.self.now in
    let img = s.image.now in
    let t = number_of c.args.t in
    let d = c.in_default in
    let k = kinded c.args.t d.not-Rules d.not-Blocks d.not-Pool in
    let wide : 8 ≡ width_of t = sym (kind-width t k.0 k.1) in
    let l = c.table-words.result.now in
    let road = YieldsList-from_enumerate (YieldsList-at c.enumerate-in_default.ensures.source (YieldsList-from_slice _ (c.iter-in_default.ensures.rest ∙ c.as_chunks-in_default.ensures.front))) c.enumerate-in_default.ensures.count in
    all_from_yields_List (λ q. record_both img t q.0) c.all-in_default.new.self _ c.all-in_default.result c.all-in_default.ensures.ran road (λ x b q k. search rules) ∙ chunks-tested img s.placed t (numbered c.args.t) 8 wide l c.table-words.ensures
