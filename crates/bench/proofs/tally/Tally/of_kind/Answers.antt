-- The chain folds the touches of the calls of the kind.
use Rattle.std.proofs.Common.{◌≡◌, ap, ◌∙◌, rules, tests}
use Rattle.std.proofs.lemmas.Iterator.{YieldsList-from_slice, YieldsList-from_zip}
use Rattle.std.proofs.lemmas.Iterator.Consumers.{YieldsList-at, YieldsList-from_filter, fold_from_yields_List}
use Rattle.std.specs.Str.{bytes_eq}
use Rattle.mutator.specs.Table.{name}
use Rattle.bench.specs.Tallies.{none, and_one, of_kind}
use Rattle.bench.specs.declared.tally.Tally.{Tally}
use Rattle.bench.proofs.Sorting.{of_kind_filter}
use Rattle.bench.proofs.tally.Tally.of_kind.Goals as goal

pub returns : goal.returns
returns c =
    let start : c.default.result ≡ none = search rules in
    fold_from_yields_List _ (λ t p. and_one t p.1) _ _ c.fold.ensures.ran
    (YieldsList-from_filter _ (λ p. bytes_eq (name p.0) c.args.kind.name.now)
    (YieldsList-at c.filter.ensures.source (YieldsList-from_zip
    (YieldsList-at c.zip.ensures.first (YieldsList-from_slice c.args.calls.now c.iter.ensures.rest))
    (YieldsList-from_slice c.args.touches.now (cc))))
    c.filter.ensures.closure (λ x b q k. search (rules, tests)))
    (λ a x b q k. search (rules, tests))
    ∙ of_kind_filter c.args.kind.name.now _ c.args.calls.now c.args.touches.now
    ∙ ap (λ (t : Tally). of_kind c.args.kind.name.now t c.args.calls.now c.args.touches.now) start
