-- Where each cell leads: the later ones by search, the earlier ones past what was led after them.
use Rattle.std.proofs.Common.{◌≡◌, ℕ, ◌<◌, length, arith, slice_index}
use Rattle.std.proofs.lemmas.Grind.{common_steps}
use Rattle.marking_tests.proofs.Leading.{led, kept, long}
use Rattle.marking_tests.proofs.rows.empties.Goals as goal

pub returns : goal.returns
returns c =
    let start = c.in_ok-row.row.words.items in
    let laid = c.in_ok-row.ensures in
    let one = c.slot.new.self.words.items in
    let two = c.slot-2.new.self.words.items in
    let three = c.place.new.self.words.items in
    let at_one : length one ≡ 87 = long 64 69 87 start one c.slot.ensures.leads laid.long in
    let at_two : length two ≡ 87 = long 66 78 87 one two c.slot-2.ensures.leads at_one in
    let last = c.place-6.new.self.words.items in
    let after : (k v : ℕ) → k < 80 → slice_index three k ≡ v → slice_index last k ≡ v =
    λ k v h e.
    kept 86 67 k v c.place-5.new.self.words.items last c.place-6.ensures.leads (omega arith)
    (kept 85 78 k v c.place-4.new.self.words.items c.place-5.new.self.words.items c.place-5.ensures.leads (omega arith)
    (kept 82 76 k v c.place-3.new.self.words.items c.place-4.new.self.words.items c.place-4.ensures.leads (omega arith)
    (kept 81 71 k v c.place-2.new.self.words.items c.place-3.new.self.words.items c.place-3.ensures.leads (omega arith)
    (kept 80 69 k v three c.place-2.new.self.words.items c.place-2.ensures.leads (omega arith) e)))) in
    let before : (k v : ℕ) → k < 74 → slice_index two k ≡ v → slice_index last k ≡ v =
    λ k v h e. after k v (omega arith) (kept 74 71 k v two three c.place.ensures.leads (omega arith) e) in
    record {
      three = grind (arith, common_steps);
      long = grind (arith, common_steps);
      empty_held = before 64 17664 (omega arith) (kept 66 78 64 17664 one two c.slot-2.ensures.leads (omega arith) (led 64 69 start one c.slot.ensures.leads (omega (arith, laid.long)) (omega arith)));
      none_held = before 65 0 (omega arith) (kept 66 78 65 0 one two c.slot-2.ensures.leads (omega arith) (kept 64 69 65 0 start one c.slot.ensures.leads (omega arith) laid.second));
      holder_held = before 66 19968 (omega arith) (led 66 78 one two c.slot-2.ensures.leads (omega arith) (omega arith));
      none_first = before 73 0 (omega arith) (kept 66 78 73 0 one two c.slot-2.ensures.leads (omega arith) (kept 64 69 73 0 start one c.slot.ensures.leads (omega arith) laid.looped));
      looped = after 74 18176 (omega arith) (led 74 71 two three c.place.ensures.leads (omega arith) (omega arith));
      first = grind (arith, common_steps);
      second = grind (arith, common_steps);
      third = grind (arith, common_steps);
      unreached_first = grind (arith, common_steps);
      unreached_second = grind (arith, common_steps);
    }
