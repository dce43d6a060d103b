-- The lines are those of the input, up to one that ended the reading.
use Rattle.std.proofs.Common.{ap, ◌∙◌, subst}
use Rattle.driver.specs.Reading.{Said, so_far, TakesAll, script_of, AreLinesOf}
use Rattle.driver.proofs.reading.read_script.Goals as goal

pub returns : goal.returns
returns g c =
    let read = c.take_input-end.new.self in
    let took = c.take_input-end.ensures in
    record {
      lines = took.lines;
      input = took.input;
      ends = took.ends;
      says = record {
        read = read;
        end = took.end;
        takes = subst (λ (s : Said). TakesAll s took.lines (so_far read) took.end) c.new-reading.ensures took.takes;
        script = c.script.ensures ∙ ap (script_of read.size read.calls) took.is;
      };
      are = subst (λ r. AreLinesOf (g.R.Read.remaining c.args.input) took.lines r) took.is took.are;
    }
