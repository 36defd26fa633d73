-- What is found by a name has it.
use Rattle.std.proofs.Common.{◌≡◌, true, true≢false, List, [], ◌∷◌, sym}
use Rattle.lemmas.proofs.Bools.{and_right}
use Rattle.dalvik_defs.specs.Names.{Text, text_eq, texts_eq, signature_eq, same_name}
use Rattle.dalvik_defs.specs.Silence.{key_in}
use Rattle.dalvik_defs.specs.declared.names.Signature.{Signature}
use Rattle.dalvik_defs.specs.declared.names.MethodKey.{MethodKey}
use Rattle.dalvik_defs.specs.declared.program.NamedMethod.{NamedMethod}
use Rattle.dalvik_defs.specs.declared.program.NamedClass.{NamedClass}
use Rattle.dalvik_defs.proofs.Calm.{text_sound}
use Rattle.program_laws.proofs.ChangedLists.{and_left}

texts_sound : (ts us : List Text) → texts_eq ts us ≡ true → ts ≡ us
texts_sound [] [] e = λ i. []
texts_sound [] (u ∷ us) e = absurd (true≢false (sym e))
texts_sound (t ∷ ts) [] e = absurd (true≢false (sym e))
texts_sound (t ∷ ts) (u ∷ us) e = λ i. text_sound t u (and_left (text_eq t u) (texts_eq ts us) e) i ∷ texts_sound ts us (and_right (text_eq t u) (texts_eq ts us) e) i

signature_sound : (a b : Signature) → signature_eq a b ≡ true → a ≡ b
signature_sound a b e = λ i. record {
  parameters = texts_sound a.parameters b.parameters (and_right (text_eq a.result b.result) (texts_eq a.parameters b.parameters) e) i;
  result = text_sound a.result b.result (and_left (text_eq a.result b.result) (texts_eq a.parameters b.parameters) e) i;
}

-- a method by its name in a class by its name
pub key_found : (c : NamedClass) (m : NamedMethod) (k : MethodKey) → text_eq c.name k.class ≡ true → same_name m.name m.signature k.name k.signature ≡ true → key_in c m ≡ k
key_found c m k d e = λ i. record {
  class = text_sound c.name k.class d i;
  name = text_sound m.name k.name (and_left (text_eq m.name k.name) (signature_eq m.signature k.signature) e) i;
  signature = signature_sound m.signature k.signature (and_right (text_eq m.name k.name) (signature_eq m.signature k.signature) e) i;
}
