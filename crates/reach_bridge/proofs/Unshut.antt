-- Where no method is shut, the table of shut methods holds what it says.
use Rattle.std.proofs.Common.{◌≡◌, true, true≢false, [], sym, ap, ◌∙◌}
use Rattle.program_model.specs.declared.program.Program.{Program}
use Rattle.program_model.specs.declared.pass.Outside.{Outside}
use Rattle.dalvik_defs.specs.Naming.{named}
use Rattle.dalvik_defs.specs.Outer.{outer_of, methods_in}
use Rattle.dalvik_defs.specs.declared.names.MethodKey.{MethodKey}
use Rattle.removal_law.specs.Reach.{ShutsHold}

pub unshut : (p : Program) (o : Outside) → o.shut ≡ [] → ShutsHold (named p) (outer_of p o)
unshut p o none = record {
  uncalled = λ k h. never k h;
  others = λ k m d e x h a b i f may out j u l q. never k h;
  plain = λ k c v h at. never k h;
}
  where
    never : {X : Type 0} (k : MethodKey) → methods_in p o.shut k ≡ true → X
    never k h = absurd (true≢false (sym h ∙ ap (λ ns. methods_in p ns k) none))
