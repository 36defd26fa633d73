use Rattle.std.proofs.Common.{◌≡◌}
use Rattle.std.specs.Prelude.{Vec}
use Rattle.std.specs.declared.alloc.Global.{Global}
use Rattle.dalvik_lookups.specs.Accepting.{IsAccepted}
use Rattle.dalvik_lookups.specs.Playing.{ArePlays}
use Rattle.dalvik_lookups.specs.Reached.{constructed_kinds, AreTypeMarks, IsOuter}
use Rattle.dalvik_lookups.specs.Tables.{IsRight}
use Rattle.dalvik_lookups.specs.declared.lookups.Lookups.{Lookups}
use Rattle.dalvik_lookups.specs.declared.plays.Play.{Play}
use Rattle.dalvik_model.specs.Standing.{subject_of}
use Rattle.dalvik_model.proofs.Tabled.{not_there, tables_there, there}
use Rattle.dalvik_model.proofs.machine.tables_of.Goals as goal

pub returns-in-Some : goal.returns-in-Some
returns-in-Some c = λ well.
    let p = c.args.program.now in
    let outside = c.args.outside.now in
    let made = c.in_ok-made.made in
    let both : Lookups × Vec Play Global = (c.in-Some.lookups, c.in-Some.plays) in
    let h = c.in_ok-made.ensures in (
      there made (λ b. IsAccepted p) both c.in-Some.is (h.accepted well),
      tables_there (subject_of p outside c.args.framework.now c.args.floats.now c.args.script.now) c.in-Some.lookups c.in_ok-floats.floats c.in-Some.plays
          (there made (λ b. b.0.program.now ≡ p) both c.in-Some.is h.program)
          (there made (λ b. b.0.framework.now ≡ c.args.framework.now) both c.in-Some.is h.framework)
          (there made (λ b. IsRight b.0) both c.in-Some.is (h.tables well))
          (there made (λ b. IsOuter p outside b.0.outer) both c.in-Some.is h.outer)
          (there made (λ b. AreTypeMarks p b.0.types outside.classes b.0.outer.classes.items) both c.in-Some.is (h.classes well))
          (there made (λ b. AreTypeMarks p b.0.types (constructed_kinds p outside.methods) b.0.outer.constructed.items) both c.in-Some.is (h.constructed well))
          c.in_ok-floats.ensures
          (there made (λ b. ArePlays p b.0.types b.0.texts c.args.script.now b.1.items) both c.in-Some.is (h.plays well)),
    )

pub returns-in-None : goal.returns-in-None
returns-in-None c = λ well accepted. not_there c.in_ok-made.made c.in-None.is (c.in_ok-made.ensures.some well accepted)
