-- The place is led; those before it lie apart from it.
use Rattle.std.proofs.Common.{◌≡◌, ℕ, ◌+◌, ◌*◌, ◌^◌, ◌<◌, arith, below_more}
use Rattle.std.proofs.lemmas.Nat.{mul-add-lt}
use Rattle.marking_tests.specs.Rows.{To}
use Rattle.marking_tests.proofs.Leading.{led_to, kept, long, earlier, below_square}
use Rattle.marking_tests.proofs.rows.complete.Goals as goal

pub loop-j-preserved : goal.loop-j-preserved
loop-j-preserved c =
    let n = c.args.count in
    let s = 2 + n in
    let i = c.loop-i.i in
    let j = c.loop-j.j in
    let I = c.loop-j.invariant in
    let row = c.loop-j.row.words.items in
    let row' = c.place.new.self.words.items in
    let first : c.len-first.result ≡ 65 = omega (arith, c.len-first.ensures, c.in_ok-row.ensures.long, c.in_ok-row.row.words.ok.0) in
    let small : i * s < 2 ^ 40 = below_square i s (omega arith) (omega arith) in
    let little : j * s < 2 ^ 40 = below_square j s (omega arith) (omega arith) in
    let within : i * s + (j + 2) < s * n = mul-add-lt i s (j + 2) n (omega arith) (omega arith) in
    record {
      one = omega arith;
      long = long _ _ _ row row' c.place.ensures.leads I.long;
      held = kept _ _ 64 (256 * 65) row row' c.place.ensures.leads (omega arith) I.held;
      links = λ a b h k.
          let before : a * s + b < i * s + j = earlier s i j a b h (omega arith) in
          kept _ _ (67 + (a * s + b)) (256 * (65 + b * s)) row row' c.place.ensures.leads (omega arith) (I.links a b h k);
      here = below_more (λ b. To row' (67 + (i * s + b)) (65 + b * s)) j
          (λ b h. kept _ _ (67 + (i * s + b)) (256 * (65 + b * s)) row row' c.place.ensures.leads (omega arith) (I.here b h))
          (led_to _ _ (67 + (i * s + j)) (65 + j * s) row row' c.place.ensures.leads (omega arith) (omega arith) (omega arith) (omega arith));
    }

pub loop-i-preserved : goal.loop-i-preserved
loop-i-preserved c =
    let n = c.args.count in
    let s = 2 + n in
    let I = c.loop-j.invariant in
    let row = c.loop-j.row.words.items in
    record {
      one = I.one;
      long = I.long;
      held = I.held;
      links = λ a b h k.
          below_more (λ m. (d : ℕ) → d < n → To row (67 + (m * s + d)) (65 + d * s)) c.loop-i.i
          (λ m l d e. I.links m d l e)
          (λ d e. I.here d (omega arith))
          a h b k;
    }
