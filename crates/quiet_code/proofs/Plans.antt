-- Plans: what is asked for each body, and plans that ask for nothing.
use Rattle.std.proofs.Common.{◌≡◌, ◌⊎◌, inl, inr, ℕ, zero, suc, ◌+◌, ◌<◌, Bool, true, false, true≢false, List, [], ◌∷◌, ◌++◌, length, Option, Some, None, refl, sym, ap, ◌∙◌, subst, arith}
use Rattle.std.specs.Prelude.{sum_by, slice_get, slice_index_or}
use Rattle.std.proofs.lemmas.Bool.{cases_eq}
use Rattle.std.proofs.lemmas.List.Sums.{sum_by-cons}
use Rattle.lemmas.proofs.Lists.{got_short}
use Rattle.insn_set.specs.declared.form.Insn.{Insn}
use Rattle.program_model.specs.Cells.{capped}
use Rattle.program_model.specs.declared.body.Body.{Body}
use Rattle.program_model.specs.declared.pass.Changed.{Changed}
use Rattle.program_model.specs.declared.program.Class.{Class}
use Rattle.program_model.specs.declared.program.Method.{Method}
use Rattle.program_model.specs.declared.program.MethodAt.{MethodAt}
use Rattle.program_model.specs.declared.program.Program.{Program}
use Rattle.rewrite_pass.specs.declared.edit.Edit.{Edit}
use Rattle.rewrite_pass.specs.Plans.{HasEdits, HasPlan, IsPlan, IsRewrittenBy, class_edits, all_edits, word}
use Rattle.quiet_code.specs.Quiet.{nop_if}
use Rattle.quiet_code.specs.Quieted.{Frames, nops_upto, AreNops, Nops, NoneIdle}

-- ---- what is asked for

module _ (W V : MethodAt → Method → Body → List Edit → Type 0) (weaker : (at : MethodAt) (m : Method) (b : Body) (es : List Edit) → W at m b es → V at m b es) (admitted : List Bool) where
  edits_weaker : (adm : Bool) (at : MethodAt) (m : Method) (o : Option Body) (es : List Edit) → HasEdits W adm at m o es → HasEdits V adm at m o es
  edits_weaker true at m (Some b) es h = weaker at m b es h
  edits_weaker true at m None es h = h
  edits_weaker false at m (Some b) es h = h
  edits_weaker false at m None es h = h

  methods_weaker : (class : ℕ) (ms : List Method) (plan : List (List Edit)) → HasPlan W admitted class ms plan → HasPlan V admitted class ms plan
  methods_weaker class ms plan h = record {
    long = h.long;
    each = λ k m lt e. edits_weaker (slice_index_or admitted m.name false) (record { class = class; place = word k }) m m.body (slice_index_or plan k []) (h.each k m lt e);
  }

  pub plan_weaker : (cs : List Class) (plan : List (List (List Edit))) → IsPlan W admitted cs plan → IsPlan V admitted cs plan
  plan_weaker cs plan h = record { long = h.long; each = λ k c lt e. methods_weaker (word k) c.methods (slice_index_or plan k []) (h.each k c lt e) }

-- ---- nothing is asked for

none_long : {A : Type 0} (xs : List A) → length xs ≡ 0 → xs ≡ []
none_long [] e = refl
none_long (x ∷ xs) e = absurd (omega (arith, e))

module _ {E : Type 0} (cost : List E → ℕ) where
  none_each : (plan : List (List E)) → sum_by cost plan ≡ 0 → cost [] ≡ 0 → (k : ℕ) → cost (slice_index_or plan k []) ≡ 0
  none_each [] e z k = z
  none_each (es ∷ plan) e z zero = let a : sum_by cost (es ∷ plan) ≡ cost es + sum_by cost plan = sum_by-cons cost es plan in omega (arith, e, a)
  none_each (es ∷ plan) e z (suc k) =
      let a : sum_by cost (es ∷ plan) ≡ cost es + sum_by cost plan = sum_by-cons cost es plan in
      none_each plan (omega (arith, e, a)) z k

none_at : (plan : List (List (List Edit))) → all_edits plan ≡ 0 → (k j : ℕ) → slice_index_or (slice_index_or plan k []) j [] ≡ []
none_at plan e k j = none_long (slice_index_or (slice_index_or plan k []) j [])
    (none_each length (slice_index_or plan k []) (none_each class_edits plan e refl k) refl j)

none_counted : (n : ℕ) → capped n ≡ 0 → n ≡ 0
none_counted n e = omega (arith, e)

left_none : {A : Type 0} (xs ys : List A) → xs ++ ys ≡ [] → (xs ≡ []) × (ys ≡ [])
left_none [] ys e = (refl, e)
left_none (x ∷ xs) ys e = absurd (cc)

-- ---- where nothing is counted, nothing is left

no_nop : (idle : Bool) (n : ℕ) → nop_if idle n ≡ [] → idle ≡ true → ⊥
no_nop true n e h = cc
no_nop false n e h = true≢false (sym h)

none_idle : (idle : ℕ → Bool) (k : ℕ) → nops_upto idle k ≡ [] → (n : ℕ) → n < k → idle n ≡ true → ⊥
none_idle idle zero e n lt h = omega (arith, lt)
none_idle idle (suc k) e n lt h =
    let both = left_none (nops_upto idle k) (nop_if (idle k) k) e in
    elim (cases_eq n k) [
      | inl same ↦ no_nop (idle k) k both.1 (subst (λ j. idle j ≡ true) same h)
      | inr other ↦ none_idle idle k both.0 n (omega (arith, lt, other)) h
    ]

module _ (p : Program) (quiet : List Bool) (frames : Frames) (admitted : List Bool) where
  coded : (at : MethodAt) (m : Method) (b : Body) (adm : Bool) (o : Option Body) (es : List Edit) → adm ≡ true → o ≡ Some b → HasEdits (Nops p quiet frames) adm at m o es → AreNops p quiet frames m b es
  coded at m b true (Some d) es a e x = let same : d ≡ b = cc in subst (λ b. AreNops p quiet frames m b es) same x
  coded at m b true None es a e x = absurd (cc)
  coded at m b false o es a e x = absurd (cc)

  pub none_left : (c : Changed) → IsRewrittenBy (Nops p quiet frames) admitted p c → c.count ≡ 0 → NoneIdle p quiet frames admitted
  none_left c r e k j d m b ec em adm has n i there idle =
      let empty : all_edits r.plan ≡ 0 = none_counted (all_edits r.plan) (sym r.written.count ∙ e) in
      let x : AreNops p quiet frames m b (slice_index_or (slice_index_or r.plan k []) j []) =
      coded (record { class = word k; place = word j }) m b (slice_index_or admitted m.name false) m.body (slice_index_or (slice_index_or r.plan k []) j []) adm has
      ((r.asked.each k d (got_short p.classes k d ec) ec).each j m (got_short d.methods j m em) em) in
      none_idle x.idle (length b.insns) (sym x.edits ∙ none_at r.plan empty k j) n (got_short b.insns n i there) ((x.are_idle n i there).1 idle)
