-- The letter of what a method gives is that of its type by name.
use Rattle.std.proofs.Common.{◌≡◌, ℕ, true, true≢false, List, [], ◌∷◌, Option, Some, None, refl, sym, ap, ◌∙◌}
use Rattle.std.specs.Prelude.{◌||◌, ◌==◌, if◌then◌else◌, map, not, slice_get, option_and_then}
use Rattle.program_model.specs.declared.pools.MethodName.{MethodName}
use Rattle.program_model.specs.declared.pools.Proto.{Proto}
use Rattle.program_model.specs.declared.program.Program.{Program}
use Rattle.dalvik_defs.specs.Names.{Text, is_reference}
use Rattle.dalvik_defs.specs.Naming.{method_at, signature_at, text_at, type_at}
use Rattle.dalvik_defs.specs.declared.names.MethodKey.{MethodKey}
use Rattle.dalvik_defs.specs.declared.names.Signature.{Signature}
use Rattle.const_prop.specs.declared.numbers.Number.{Number}
use Rattle.const_prop.specs.Kinds.{in_type, is_null, is_wide_number, letter, letter_given, letter_of}

module _ (p : Program) where
  letter_text : (s : ℕ) → option_and_then letter (slice_get p.strings s) ≡ letter (text_at p s)
  letter_text s = by (slice_get p.strings s)
    where
      by : (o : Option (List ℕ)) → option_and_then letter o ≡ letter (elim o as (λ o. Text) [ Some t ↦ t | None ↦ [] ])
      by None = refl
      by (Some t) = refl

  letter_type : (k : ℕ) → letter_of p k ≡ letter (type_at p k)
  letter_type k = by (slice_get p.types k)
    where
      by : (o : Option ℕ) → option_and_then (λ s. option_and_then letter (slice_get p.strings s)) o ≡ letter (elim o as (λ o. Text) [ Some t ↦ text_at p t | None ↦ [] ])
      by None = refl
      by (Some s) = letter_text s

  letter_signature : (k : ℕ) → option_and_then (λ r. letter_of p r.result) (slice_get p.protos k) ≡ letter (signature_at p k).result
  letter_signature k = by (slice_get p.protos k)
    where
      by : (o : Option Proto) → option_and_then (λ r. letter_of p r.result) o
          ≡ letter (elim o as (λ o. Signature) [ Some q ↦ record { parameters = map (type_at p) q.parameters; result = type_at p q.result } | None ↦ record { parameters = []; result = [] } ]).result
      by None = refl
      by (Some r) = letter_type r.result

  pub letter_same : (method : ℕ) → letter_given p method ≡ letter (method_at p method).signature.result
  letter_same method = by (slice_get p.methods method)
    where
      by : (o : Option MethodName) → option_and_then (λ q. option_and_then (λ r. letter_of p r.result) (slice_get p.protos q.proto)) o
          ≡ letter (elim o as (λ o. MethodKey) [
            | Some m ↦ record { class = type_at p m.class; name = text_at p m.name; signature = signature_at p m.proto }
            | None ↦ record { class = []; name = []; signature = record { parameters = []; result = [] } }
          ]).signature.result
      by None = refl
      by (Some m) = letter_signature m.proto

-- what fits the letter of a reference is null
pub null_letter : (t : Text) (n : Number) → is_reference t ≡ true → in_type (letter t) n ≡ true → is_null n ≡ true
null_letter [] n e i = absurd (true≢false (sym e))
null_letter (u ∷ us) n e i = sym (ap (λ b. if b then is_null n else if u == 74 || u == 68 then is_wide_number n else not (is_wide_number n)) e) ∙ i
