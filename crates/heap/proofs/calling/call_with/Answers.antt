-- An arm that only reads and writes leaves the world's own answer.
use Rattle.std.proofs.Common.{rules}
use Rattle.heap.proofs.Arms.{arm_calls, arm_most}
use Rattle.heap.proofs.calling.call_with.Goals as goal

pub returns-in-Get : goal.returns-in-Get
returns-in-Get g c = record {
  calls = arm_calls _ _ _ _ _ _ c.in-Get.is (λ e. cc) c.get.ensures.acts;
  writes = (search rules);
  frame = c.get.ensures.frame;
  most = arm_most _ _ _ _ _ c.in-Get.is c.get.ensures.touches;
}

pub returns-in-Set : goal.returns-in-Set
returns-in-Set g c = record {
  calls = arm_calls _ _ _ _ _ _ c.in-Set.is (λ e. cc) c.set.ensures.acts;
  writes = (search rules);
  frame = c.set.ensures.frame;
  most = arm_most _ _ _ _ _ c.in-Set.is c.set.ensures.touches;
}

pub returns-in-Read : goal.returns-in-Read
returns-in-Read g c = record {
  calls = arm_calls _ _ _ _ _ _ c.in-Read.is (λ e. cc) c.read.ensures.acts;
  writes = (search rules);
  frame = c.read.ensures.frame;
  most = arm_most _ _ _ _ _ c.in-Read.is c.read.ensures.touches;
}

pub returns-in-Write : goal.returns-in-Write
returns-in-Write g c = record {
  calls = arm_calls _ _ _ _ _ _ c.in-Write.is (λ e. cc) c.write.ensures.acts;
  writes = (search rules);
  frame = c.write.ensures.frame;
  most = arm_most _ _ _ _ _ c.in-Write.is c.write.ensures.touches;
}

pub returns-in-Copy : goal.returns-in-Copy
returns-in-Copy g c = record {
  calls = arm_calls _ _ _ _ _ _ c.in-Copy.is (λ e. cc) c.copy.ensures.acts;
  writes = (search rules);
  frame = c.copy.ensures.frame;
  most = arm_most _ _ _ _ _ c.in-Copy.is c.copy.ensures.touches;
}

pub returns-in-Clear : goal.returns-in-Clear
returns-in-Clear g c = record {
  calls = arm_calls _ _ _ _ _ _ c.in-Clear.is (λ e. cc) c.clear.ensures.acts;
  writes = (search rules);
  frame = c.clear.ensures.frame;
  most = arm_most _ _ _ _ _ c.in-Clear.is c.clear.ensures.touches;
}

pub returns-in-Same : goal.returns-in-Same
returns-in-Same g c = record {
  calls = arm_calls _ _ _ _ _ _ c.in-Same.is (λ e. cc) c.same.ensures.acts;
  writes = (search rules);
  frame = c.same.ensures.frame;
  most = arm_most _ _ _ _ _ c.in-Same.is c.same.ensures.touches;
}

pub returns-in-Sizes : goal.returns-in-Sizes
returns-in-Sizes g c = record {
  calls = arm_calls _ _ _ _ _ _ c.in-Sizes.is (λ e. cc) c.sizes.ensures.acts;
  writes = (search rules);
  frame = c.sizes.ensures.frame;
  most = arm_most _ _ _ _ _ c.in-Sizes.is c.sizes.ensures.touches;
}
