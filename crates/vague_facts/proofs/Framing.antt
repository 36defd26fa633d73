-- Frames for so many positions, and marks that stand.
use Rattle.std.proofs.Common.{◌≡◌, ℕ, zero, suc, ◌+◌, ◌<◌, ◌≤◌, true, List, [], ◌∷◌, ◌++◌, length, Option, Some, None, inl, inr, refl, sym, ap, ◌∙◌, subst, arith}
use Rattle.std.specs.Prelude.{slice_get, slice_index_or}
use Rattle.std.proofs.lemmas.Bool.{cases_lt}
use Rattle.std.proofs.lemmas.List.{get_or_append_left}
use Rattle.std.proofs.lemmas.Option.{get_or_from_slice_get}
use Rattle.lemmas.proofs.Lists.{got_short}
use Rattle.program_model.specs.ProgramRules.{is_well_formed}
use Rattle.program_model.specs.Lookups.{method_at}
use Rattle.program_model.specs.declared.body.Body.{Body}
use Rattle.program_model.specs.declared.program.Method.{Method}
use Rattle.program_model.specs.declared.program.MethodAt.{MethodAt}
use Rattle.program_model.specs.declared.program.Program.{Program}
use Rattle.domains.specs.Values.{any_value}
use Rattle.dom_frame.specs.declared.frames.Frame.{Frame}
use Rattle.dom_frame.specs.Registers.{Registers}
use Rattle.facts.specs.declared.facts.Facts.{Facts}
use Rattle.vague_facts.specs.Vague.{anything, IsVague}
use Rattle.vague_facts.specs.Counting.{Rises, IsCounted, CountsClasses, registers_in, ComesTo, AreFrames}
use Rattle.vague_facts.proofs.Bodies.{owner_of, rules_at}

-- ---- one more at the end of a list

pub long_more : {A : Type 0} (xs : List A) (x : A) → length (xs ++ x ∷ []) ≡ length xs + 1
long_more [] x = refl
long_more (y ∷ ys) x = let e = long_more ys x in omega (arith, e)

read_last : {A : Type 0} (xs : List A) (x d : A) (n : ℕ) → n ≡ length xs → slice_index_or (xs ++ x ∷ []) n d ≡ x
read_last [] x d n e = subst (λ n. slice_index_or (x ∷ []) n d ≡ x) (sym e) refl
read_last (y ∷ ys) x d zero e = absurd (omega (arith, e))
read_last (y ∷ ys) x d (suc n) e = read_last ys x d n (omega (arith, e))

-- what holds of all entries and of a new one holds of one more
module _ {A : Type 0} (P : ℕ → A → Type 0) (d : A) where
  one_entry : (xs : List A) (x : A) (count : ℕ) → length xs ≡ count → ((n : ℕ) → n < count → P n (slice_index_or xs n d)) → P count x → (n : ℕ) → n < count + 1 → P n (slice_index_or (xs ++ x ∷ []) n d)
  one_entry xs x count long h own n lt = elim (cases_lt n count) [
    | inl below ↦ subst (P n) (sym (get_or_append_left xs (x ∷ []) d n (omega (arith, long, below)))) (h n below)
    | inr above ↦
        let s : n ≡ count = omega (arith, lt, above) in
        subst (P n) (sym (read_last xs x d n (s ∙ sym long))) (subst (λ m. P m x) (sym s) own)
  ]

-- ---- frames

pub no_frames : (x : Registers) → AreFrames x 0 []
no_frames x = record { long = refl; come = λ n lt. absurd (omega (arith, lt)) }

pub one_frame : (x : Registers) (count : ℕ) (frames : List (Option Frame)) (f : Frame) → AreFrames x count frames → f.registers ≡ x → AreFrames x (count + 1) (frames ++ Some f ∷ [])
one_frame x count frames f h e = record {
  long = long_more frames (Some f) ∙ ap (λ n. n + 1) h.long;
  come = one_entry (λ n o. registers_in o ≡ Some x) None frames (Some f) count h.long h.come (ap Some e);
}

pub one_list : (x : Registers) (counts : List ℕ) (count : ℕ) (lists : List (List (Option Frame))) (frames : List (Option Frame)) (size : ℕ) → length lists ≡ count → slice_get counts count ≡ Some size → AreFrames x size frames
    → ((n : ℕ) → n < count → ComesTo x (slice_index_or counts n 0) (slice_index_or lists n [])) → (n : ℕ) → n < count + 1 → ComesTo x (slice_index_or counts n 0) (slice_index_or (lists ++ frames ∷ []) n [])
one_list x counts count lists frames size long e are h =
    one_entry (λ n fs. ComesTo x (slice_index_or counts n 0) fs) [] lists frames count long h (subst (λ k. ComesTo x k frames) (sym (get_or_from_slice_get counts count size 0 e)) are.come)

-- ---- facts

module _ (p : Program) (t : Facts) (size : ℕ) (old counts : List ℕ) (formed : is_well_formed p ≡ true) (wide : 65535 ≤ size) (long : length old ≡ length p.methods) (rises : Rises old counts)
    (counted : CountsClasses counts (length p.classes) p.classes) where
  counts_at : (at : MethodAt) (m : Method) (b : Body) → method_at p at ≡ Some m → m.body ≡ Some b → IsCounted counts m.name b
  counts_at at m b e f =
      let o = owner_of p at m e in
      counted at.class o.class (got_short p.classes at.class o.class o.is_class) o.is_class at.place m (got_short o.class.methods at.place m o.is_method) o.is_method b f

  pub vague_by : ((n : ℕ) → n < length counts → ComesTo (anything size) (slice_index_or counts n 0) (slice_index_or t.frames.items n [])) → t.any ≡ any_value → t.parameters.items ≡ [] → t.results.items ≡ [] → t.fields.items ≡ [] → IsVague p t
  vague_by frames any parameters results fields = record {
    size = size;
    some = omega (arith, wide);
    room = λ at m b e f. let r = (counts_at at m b e f).room in omega (arith, r, wide);
    comes = λ at m b n e f lt.
        let named = (rules_at p formed at m e).named in
        let same = rises.long in
        let there : m.name < length counts = omega (arith, named, same, long) in
        let l = (counts_at at m b e f).long there in
        frames m.name there n (omega (arith, lt, l));
    any = any;
    parameters = parameters;
    results = results;
    fields = fields;
  }
