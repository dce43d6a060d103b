-- One free word more is put.
use Rattle.std.proofs.Common.{◌≡◌, ℕ, ◌+◌, ◌-◌, List, [], ◌∷◌, ◌++◌, length, replicate, sym, ap, ◌∙◌, append-nil, append_assoc, arith}
use Rattle.layout.specs.Cells.{free_of}
use Rattle.picture.specs.declared.spot.Spot.{Spot}
use Rattle.picture.specs.declared.spot.Spot.TheVariants.{Free}
use Rattle.picture.proofs.Putting.{replicate_more}
use Rattle.picture.proofs.survey.put_free.Goals as goal

-- none from n to n
none_between : (n : ℕ) (xs : List Spot) → xs ≡ xs ++ replicate (n - n) Free
none_between n xs = let z : n - n ≡ 0 = omega arith in rw z (sym (append-nil xs))

pub loop-init : goal.loop-init
loop-init g c = (none_between _ _, omega arith)

pub loop-preserved : goal.loop-preserved
loop-preserved g c =
    let i = c.loop.invariant in
    let n = c.free-counter.result in
    let z : c.loop.counter + 1 - n ≡ c.loop.counter - n + 1 = omega arith in
    let k : c.push.new.self.items ≡ c.args.spots.now.items ++ replicate (c.loop.counter + 1 - n) Free =
    rw z (c.in_ok-push.ensures.items ∙ ap (λ (xs : List Spot). xs ++ Free ∷ []) i.0 ∙ append_assoc c.args.spots.now.items (replicate (c.loop.counter - n) Free) (Free ∷ []) ∙ ap (λ (xs : List Spot). c.args.spots.now.items ++ xs) (sym (replicate_more (c.loop.counter - n) Free))) in
    (k, omega arith)

pub returns : goal.returns
returns g c =
    let i = c.loop.invariant in
    let f = c.free-counter.ensures in
    let row = g.W.Words.row c.args.m.now.words in
    let e = ap length f.looks.same in
    let z : c.loop.counter - c.free-counter.result ≡ length row - free_of row = omega arith in
    record { spots = i.0 ∙ ap (λ (k : ℕ). c.args.spots.now.items ++ replicate k Free) z; looks = f.looks; touches = omega arith }
