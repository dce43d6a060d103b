-- As many touches as calls, each within the bound of a call.
use Rattle.std.proofs.Common.{◌≡◌, length, sym, ap, ◌∙◌, subst, arith}
use Rattle.bench.specs.Touches.{Bounded}
use Rattle.bench.proofs.Counted.{touches_bounded, written_back}
use Rattle.bench.proofs.playing.Game.touches.Goals as goal

pub returns : goal.returns
returns c =
    let game = c.args.self.now in
    let out = c.play_as.new.out in
    let many : c.in_ok-touches.touches.len ≡ length game.calls.now = c.in_ok-touches.ensures.len in
    let l : length out ≡ c.in_ok-touches.touches.len = omega (arith, c.play_as.auto.out, ap length c.as_mut_slice-2.ensures.value, c.in_ok-touches.touches.ok.0) in
    let n : length c.as_mut_slice.result.now ≡ game.words = omega (arith, ap length c.as_mut_slice.ensures.value, c.in_ok-words.words.ok.0, c.in_ok-words.ensures) in
    let b = subst (λ k. Bounded k out) n (touches_bounded _ game.slots game.calls.now _ out c.play_as.ensures (l ∙ many)) in
    (many, subst (Bounded game.words) (sym (written_back _ out _ l)) b)
