-- There is no such slot, or there is room now.
use Rattle.std.proofs.Common.{rules, arith}
use Rattle.heap.proofs.Arms.{no_slot_calls, told_calls}
use Rattle.pagzimul.proofs.Anew.{now_calls}
use Rattle.pagzimul.proofs.core_calls.pagzimul_new.Goals as goal

pub returns-then-s-slots : goal.returns-then-s-slots
returns-then-s-slots c = record {
  sized = λ p n. told_calls _ _ _ _ _ _ c.from.ensures (no_slot_calls _ _ _ _ _ c.requires.ready.ok c.if-s-slots.true);
  unsized = (search rules);
}

pub returns-then-new_now : goal.returns-then-new_now
returns-then-new_now c = record {
  sized = λ p n. told_calls _ _ _ _ _ _ c.from-then-new_now.ensures (now_calls _ _ _ _ _ c.requires (omega arith) _ (search rules));
  unsized = (search rules);
}
