-- A value of which one number is known holds of that number alone.
use Rattle.std.proofs.Common.{◌≡◌, ℕ, ◌<◌, Bool, true, false, true≢false, List, [], ◌∷◌, Option, Some, None, refl, sym, ap, ◌∙◌, subst, arith}
use Rattle.std.specs.Prelude.{◌==◌, length, if◌then◌else◌}
use Rattle.std.specs.Option.{option_map}
use Rattle.std.proofs.lemmas.Bool.{eqb-true}
use Rattle.dalvik_defs.specs.Names.{Text}
use Rattle.dalvik_defs.specs.declared.state.Value.{Value}
use Rattle.dalvik_defs.specs.declared.state.Value.TheVariants as machine
use Rattle.dalvik_defs.specs.declared.program.NamedProgram.{NamedProgram}
use Rattle.domains.specs.declared.numbers.Word.{Word as Content}
use Rattle.domains.specs.declared.numbers.Word.TheVariants as content
use Rattle.domains.specs.declared.nulls.Nullness.{Nullness}
use Rattle.domains.specs.declared.nulls.Nullness.TheVariants as null
use Rattle.domains.specs.Datum.{Number as Datum-number, Datum, Plain, Single, Double, Object}
use Rattle.domains.specs.Words.{word_holds, word_known, word_known_wide}
use Rattle.domains.specs.Nulls.{null_holds}
use Rattle.domains.specs.ClassSets.{is_no_set, set_holds}
use Rattle.domains.specs.Values.{Parts, value_holds, kind_holds, known_of, known_wide_of}
use Rattle.value_ops.specs.Left.{is_bottom, is_nothing}
use Rattle.run_facts.specs.ValueAnalysis.{datum_of}
use Rattle.const_prop.specs.declared.numbers.Number.{Number}
use Rattle.const_prop.specs.declared.numbers.Number.TheVariants.{Word, Wide}
use Rattle.const_prop.specs.Known.{zero_number, only_number, number_of}
use Rattle.facts_kept.specs.Known.{IsNumber, Only}

-- ---- nothing

none_held : (n : Nullness) (d : Datum) → is_bottom n ≡ true → null_holds n d → ⊥
none_held null.Bottom d e h = h
none_held null.Null d e h = true≢false (sym e)
none_held null.NotNull d e h = true≢false (sym e)
none_held null.Any d e h = true≢false (sym e)

pub nothing_held : (v : Parts) (d : Datum) → is_nothing v ≡ true → value_holds v d → ⊥
nothing_held v d e h = none_held v.nullness d e h.1

-- ---- one number

no_object : (cs : Option (List ℕ)) (c : Option ℕ) → is_no_set cs ≡ true → set_holds cs c → ⊥
no_object None c e h = true≢false (sym e)
no_object (Some []) None e h = h
no_object (Some []) (Some c) e h = let l : h.0 < 0 = h.1 in omega (arith, l)
no_object (Some (x ∷ xs)) c e h = let k : length (x ∷ xs) ≡ 0 = eqb-true (length (x ∷ xs)) 0 e in omega (arith, k)

known_word : (y : Content) (n : ℕ) (m : Datum-number) → word_known y ≡ Some n → word_holds y m → m ≡ Single n
known_word (content.Known a) n m e h = h ∙ (let i : a ≡ n = cc in ap Single i)
known_word content.Bottom n m e h = absurd h
known_word (content.KnownWide a) n m e h = absurd (cc)
known_word content.Any n m e h = absurd (cc)

known_double : (y : Content) (n : ℕ) (m : Datum-number) → word_known_wide y ≡ Some n → word_holds y m → m ≡ Double n
known_double (content.KnownWide a) n m e h = h ∙ (let i : a ≡ n = cc in ap Double i)
known_double content.Bottom n m e h = absurd h
known_double (content.Known a) n m e h = absurd (cc)
known_double content.Any n m e h = absurd (cc)

-- the datum is the word, or the wide number
abbrev IsPlain : Number → Datum → Type 0
IsPlain (Word n) d = d ≡ Plain (Single n)
IsPlain (Wide n) d = d ≡ Plain (Double n)

narrow : (v : Parts) (n : ℕ) → known_of v ≡ Some n → (d : Datum) → kind_holds v d → d ≡ Plain (Single n)
narrow v n e d h = by (is_no_set v.classes) refl e d h
  where
    by : (b : Bool) → is_no_set v.classes ≡ b → (if b then word_known v.word else None) ≡ Some n → (d : Datum) → kind_holds v d → d ≡ Plain (Single n)
    by false i k d h = absurd (cc)
    by true i k (Plain (Single w)) h = ap Plain (known_word v.word n (Single w) k h.0)
    by true i k (Plain (Double w)) h = ap Plain (known_word v.word n (Double w) k h)
    by true i k (Object c) h = absurd (no_object v.classes c i h)

wide : (v : Parts) (n : ℕ) → known_wide_of v ≡ Some n → (d : Datum) → kind_holds v d → d ≡ Plain (Double n)
wide v n e d h = by (is_no_set v.classes) refl e d h
  where
    by : (b : Bool) → is_no_set v.classes ≡ b → (if b then word_known_wide v.word else None) ≡ Some n → (d : Datum) → kind_holds v d → d ≡ Plain (Double n)
    by false i k d h = absurd (cc)
    by true i k (Plain (Single w)) h = ap Plain (known_double v.word n (Single w) k h.0)
    by true i k (Plain (Double w)) h = ap Plain (known_double v.word n (Double w) k h)
    by true i k (Object c) h = absurd (no_object v.classes c i h)

plain : (v : Parts) (b : Bool) (num : Number) → only_number b v ≡ Some num → (d : Datum) → kind_holds v d → IsPlain num d
plain v false num e d h = by (known_of v) refl e
  where
    by : (o : Option ℕ) → known_of v ≡ o → ◌≡◌ {A = Option Number} (option_map Word o) (Some num) → IsPlain num d
    by None i k = absurd (cc)
    by (Some n) i k = let same : Word n ≡ num = cc in subst (λ z. IsPlain z d) same (narrow v n i d h)
plain v true num e d h = by (known_wide_of v) refl e
  where
    by : (o : Option ℕ) → known_wide_of v ≡ o → ◌≡◌ {A = Option Number} (option_map Wide o) (Some num) → IsPlain num d
    by None i k = absurd (cc)
    by (Some n) i k = let same : Wide n ≡ num = cc in subst (λ z. IsPlain z d) same (wide v n i d h)

-- what has the datum of a number holds it
module _ (p : NamedProgram) where
  held : (num : Number) (k : Text) (u : Value) → IsPlain num (datum_of p k u) → IsNumber num u
  held (Word n) k (machine.Word m) e = let i : m ≡ n = cc in ap machine.Word i
  held (Word n) k (machine.Low m) e = absurd (cc)
  held (Word n) k (machine.High m) e = absurd (cc)
  held (Word n) k (machine.Object m) e = absurd (cc)
  held (Word n) k (machine.Literal t) e = absurd (cc)
  held (Word n) k (machine.Class t) e = absurd (cc)
  held (Wide n) k (machine.Word m) e = absurd (cc)
  held (Wide n) k (machine.Low m) e = let i : m ≡ n = cc in i
  held (Wide n) k (machine.High m) e = let i : m ≡ n = cc in i
  held (Wide n) k (machine.Object m) e = absurd (cc)
  held (Wide n) k (machine.Literal t) e = absurd (cc)
  held (Wide n) k (machine.Class t) e = absurd (cc)

  pub only : (v : Parts) (b : Bool) (num : Number) → number_of v b ≡ Some num → Only p v num
  only v b num e k u h = by (is_nothing v) refl e
    where
      by : (c : Bool) → is_nothing v ≡ c → (if c then Some (zero_number b) else only_number b v) ≡ Some num → IsNumber num u
      by true i j = absurd (nothing_held v (datum_of p k u) i h)
      by false i j = held num k u (plain v b num j (datum_of p k u) h.0)

-- the number is as wide as what is asked for
pub number_width : (v : Parts) (b : Bool) (num : Number) → number_of v b ≡ Some num → (n : ℕ) × (num ≡ elim b as (λ b. Number) [ true ↦ Wide n | false ↦ Word n ])
number_width v b num e = by (is_nothing v) b e
  where
    by : (c b : Bool) → (if c then Some (zero_number b) else only_number b v) ≡ Some num → (n : ℕ) × (num ≡ elim b as (λ b. Number) [ true ↦ Wide n | false ↦ Word n ])
    by true true i = (0, (let j : Wide 0 ≡ num = cc in sym j))
    by true false i = (0, (let j : Word 0 ≡ num = cc in sym j))
    by false true i = of (known_wide_of v) i
      where
        of : (o : Option ℕ) → ◌≡◌ {A = Option Number} (option_map Wide o) (Some num) → (n : ℕ) × (num ≡ Wide n)
        of None k = absurd (cc)
        of (Some n) k = (n, (let j : Wide n ≡ num = cc in sym j))
    by false false i = of (known_of v) i
      where
        of : (o : Option ℕ) → ◌≡◌ {A = Option Number} (option_map Word o) (Some num) → (n : ℕ) × (num ≡ Word n)
        of None k = absurd (cc)
        of (Some n) k = (n, (let j : Word n ≡ num = cc in sym j))
