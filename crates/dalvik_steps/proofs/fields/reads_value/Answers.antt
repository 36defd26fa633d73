use Rattle.std.proofs.Common.{length, subst, sym}
use Rattle.std.specs.Prelude.{Option, Some, None}
use Rattle.std.specs.Option.{option_map}
use Rattle.dalvik_defs.specs.Outcome.{reads_value}
use Rattle.dalvik_state.specs.Runs.{comes_of, world_in, IsEvent}
use Rattle.dalvik_state.specs.Views.{frame_of, names_in, value_of}
use Rattle.dalvik_state.specs.Worlds.{spots_of}
use Rattle.dalvik_state.specs.declared.datum.Datum.{Datum}
use Rattle.dalvik_steps.specs.Reaching.{FineMaybe}
use Rattle.dalvik_steps.proofs.FieldReads.{value_read}
use Rattle.dalvik_steps.proofs.fields.reads_value.Goals as goal

pub returns-in-Some : goal.returns-in-Some
returns-in-Some c = λ l o floats script steps f h fine.
    subst (λ (v : Option Datum). IsEvent l steps script c.go_on_with.new.self None (comes_of l o floats script c.args.state.now f (reads_value c.args.reading.item c.args.reading.to (option_map (value_of (names_in l)) v) (world_in l c.args.state.now) (frame_of (names_in l) f)))) (sym c.in-Some.is)
    (value_read l o floats script steps f c.args.reading.item c.args.reading.to c.in-Some.datum c.args.state.now c.go_on_with.new.self h (subst (FineMaybe (names_in l) (length (spots_of c.args.state.now.world))) c.in-Some.is fine) c.go_on_with.ensures.stack c.go_on_with.ensures.rest)
