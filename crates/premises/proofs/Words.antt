-- What has been read class by class, by the places of instructions and fields.
use Rattle.std.proofs.Common.{All, subst}
use Rattle.std.specs.Prelude.{IfSome}
use Rattle.program_model.specs.declared.program.Program.{Program}
use Rattle.premises.specs.Numbers.{AllHaveWords, BodyHasWords, ClassHasWords, FieldHasWords, HasWords, MethodHasWords, ValueHasWords}
use Rattle.premises.proofs.Reading.{at}

pub all_words : (p : Program) → All ClassHasWords p.classes → AllHaveWords p
all_words p all = record {
  insns = λ i j n c m b x e f g h.
      let method : IfSome m.body BodyHasWords = at MethodHasWords c.methods j m f (at ClassHasWords p.classes i c e all).methods in
      at HasWords b.insns n x h (subst (λ o. IfSome o BodyHasWords) g method);
  firsts = λ i j c f v e g h.
      let field : IfSome f.first ValueHasWords = at FieldHasWords c.fields j f g (at ClassHasWords p.classes i c e all).fields in
      subst (λ o. IfSome o ValueHasWords) h field;
}
