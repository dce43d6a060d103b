-- The theorem is proved in Listing and Roomless.
use Rattle.mutator.proofs.Listing.{found}
use Rattle.mutator.proofs.Roomless.{answered}
use Rattle.mutator.proofs.laws.table_holds.Goals as goal

pub returns : goal.returns
returns c = record { found = found; roomless = answered }
