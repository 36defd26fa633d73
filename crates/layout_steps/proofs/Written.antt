-- A body with instructions written over its own lays out where each is no longer.
use Rattle.std.proofs.Common.{◌≡◌, inl, inr, ℕ, zero, suc, ◌+◌, Bool, true, false, List, [], ◌∷◌, length, Option, Some, None, refl, sym, ap, ◌∙◌, subst, arith, All}
use Rattle.std.specs.Prelude.{slice_get, slice_set, slice_index_or}
use Rattle.std.proofs.lemmas.Bool.{cases_eq}
use Rattle.std.proofs.lemmas.List.Elements.{All-head, All-tail}
use Rattle.lemmas.proofs.Lists.{got_short}
use Rattle.lemmas.proofs.Options.{some_same, none_some}
use Rattle.insn_set.specs.declared.form.Insn.{Insn}
use Rattle.program_model.specs.declared.body.Body.{Body}
use Rattle.program_model.specs.declared.pass.Changed.{Changed}
use Rattle.program_model.specs.declared.program.Class.{Class}
use Rattle.program_model.specs.declared.program.Method.{Method}
use Rattle.program_model.specs.declared.program.MethodAt.{MethodAt}
use Rattle.program_model.specs.declared.program.Program.{Program}
use Rattle.rewrite_pass.specs.declared.edit.Edit.{Edit}
use Rattle.rewrite_pass.specs.Plans.{edited, body_edited, code_edited, method_by, class_by, word, HasEdits, IsRewrittenBy}
use Rattle.dex_defs.specs.LaysOut.{LaysOutMethod, LaysOutBody, LaysOut}
use Rattle.layout_law.specs.Shorter.{IsNoLonger, Same, AreNoLonger}
use Rattle.layout_law.proofs.Shortened.{shortened}
use Rattle.layout_law.proofs.Methods.{MethodLies, ClassLies}
use Rattle.layout_steps.proofs.Programs.{all_by}

-- instruction by instruction
pub from_each : (n : ℕ) (fs gs : List Insn) → length gs ≡ length fs → ((k : ℕ) (f g : Insn) → slice_get fs k ≡ Some f → slice_get gs k ≡ Some g → IsNoLonger (n + k) f g) → AreNoLonger n fs gs
from_each n [] [] l h = tt
from_each n [] (g ∷ gs) l h = absurd (omega (arith, l))
from_each n (f ∷ fs) [] l h = absurd (omega (arith, l))
from_each n (f ∷ fs) (g ∷ gs) l h =
    let o : n + 0 ≡ n = omega arith in
    (subst (λ k. IsNoLonger k f g) o (h zero f g refl refl), from_each (suc n) fs gs (omega (arith, l)) (λ k x y e d. subst (λ j. IsNoLonger j x y) (next k) (h (suc k) x y e d)))
  where
    next : (k : ℕ) → n + suc k ≡ suc n + k
    next k = omega arith

pub from_all : (fs gs : List Insn) → length gs ≡ length fs → ((k : ℕ) (f g : Insn) → slice_get fs k ≡ Some f → slice_get gs k ≡ Some g → IsNoLonger k f g) → AreNoLonger 0 fs gs
from_all fs gs l h = from_each 0 fs gs l (λ k f g e d. subst (λ j. IsNoLonger j f g) (zeroth k) (h k f g e d))
  where
    zeroth : (k : ℕ) → k ≡ 0 + k
    zeroth k = omega arith

-- ---- instructions written one after the other

set_here : (is : List Insn) (n : ℕ) (g x : Insn) → slice_get is n ≡ Some x → slice_get (slice_set is n g) n ≡ Some g
set_here [] n g x e = none_some x e
set_here (i ∷ is) zero g x e = refl
set_here (i ∷ is) (suc n) g x e = set_here is n g x e

set_away : (is : List Insn) (k n : ℕ) (g : Insn) → (n ≡ k → ⊥) → slice_get (slice_set is k g) n ≡ slice_get is n
set_away [] k n g d = refl
set_away (i ∷ is) zero zero g d = absurd (d refl)
set_away (i ∷ is) zero (suc n) g d = refl
set_away (i ∷ is) (suc k) zero g d = refl
set_away (i ∷ is) (suc k) (suc n) g d = set_away is k n g (λ e. d (ap suc e))

set_long : (is : List Insn) (n : ℕ) (g : Insn) → length (slice_set is n g) ≡ length is
set_long [] n g = refl
set_long (i ∷ is) zero g = refl
set_long (i ∷ is) (suc n) g = ap suc (set_long is n g)

edited_long : (es : List Edit) (is : List Insn) → length (edited es is) ≡ length is
edited_long [] is = refl
edited_long (e ∷ es) is = edited_long es (slice_set is e.position e.insn) ∙ set_long is e.position e.insn

module _ (old : List Insn) where
  -- what is written is no longer than the old instruction there
  abbrev pub Fits : Edit → Type 0
  Fits e = (f : Insn) → slice_get old e.position ≡ Some f → IsNoLonger e.position f e.insn

  -- so is each instruction so far
  abbrev AreFine : List Insn → Type 0
  AreFine is = (n : ℕ) (f : Insn) → slice_get old n ≡ Some f → (g : Insn) × (slice_get is n ≡ Some g) × IsNoLonger n f g

  set_fine : (is : List Insn) (e : Edit) → Fits e → AreFine is → AreFine (slice_set is e.position e.insn)
  set_fine is e fits fine n f h = elim (cases_eq n e.position) [
    | inl s ↦ (
      e.insn,
      subst (λ k. slice_get (slice_set is e.position e.insn) k ≡ Some e.insn) (sym s) (set_here is e.position e.insn (fine n f h).0 (subst (λ k. slice_get is k ≡ Some (fine n f h).0) s (fine n f h).1)),
      subst (λ k. IsNoLonger k f e.insn) (sym s) (fits f (subst (λ k. slice_get old k ≡ Some f) s h)),
    )
    | inr d ↦ ((fine n f h).0, set_away is e.position n e.insn d ∙ (fine n f h).1, (fine n f h).2)
  ]

  edited_fine : (es : List Edit) (is : List Insn) → All Fits es → AreFine is → AreFine (edited es is)
  edited_fine [] is a fine = fine
  edited_fine (e ∷ es) is a fine = edited_fine es (slice_set is e.position e.insn) (All-tail Fits e es a) (set_fine is e (All-head Fits e es a) fine)

  pub edited_shorter : (es : List Edit) → All Fits es → AreNoLonger 0 old (edited es old)
  edited_shorter es a = from_all old (edited es old) (edited_long es old) (λ n f g h d.
      let r = edited_fine es old a (λ k x e. (x, e, Same)) n f h in
      subst (λ y. IsNoLonger n f y) (some_same r.0 g (sym r.1 ∙ d)) r.2)

pub edited_lies : (es : List Edit) (b : Body) → All (Fits b.insns) es → LaysOutBody b → LaysOutBody (body_edited es b)
edited_lies es b a l = shortened b (body_edited es b) (record { insns = edited_shorter b.insns es a; regions = refl }) l

-- ---- programs

module _ (writes : MethodAt → Method → Body → List Edit → Type 0) (admitted : List Bool) where
  -- what a pass writes over a body fits
  abbrev pub WritesWell : Program → Type 0
  WritesWell p = (k j : ℕ) (c : Class) (m : Method) (b : Body) (at : MethodAt) (es : List Edit) → slice_get p.classes k ≡ Some c → slice_get c.methods j ≡ Some m → m.body ≡ Some b → writes at m b es → All (Fits b.insns) es

  code_lies : (a : Bool) (at : MethodAt) (m : Method) (o : Option Body) (es : List Edit) → ((b : Body) → o ≡ Some b → writes at m b es → All (Fits b.insns) es)
      → HasEdits writes a at m o es → LaysOutMethod o → LaysOutMethod (code_edited es o)
  code_lies a at m None es fit h l = tt
  code_lies true at m (Some b) es fit h l = edited_lies es b (fit b refl h) l
  code_lies false at m (Some b) es fit h l = subst (λ x. LaysOutMethod (code_edited x (Some b))) (sym h) l

  method_lies : (at : MethodAt) (m : Method) (es : List Edit) → ((b : Body) → m.body ≡ Some b → writes at m b es → All (Fits b.insns) es)
      → HasEdits writes (slice_index_or admitted m.name false) at m m.body es → MethodLies m → MethodLies (method_by es m)
  method_lies at m [] fit h l = l
  method_lies at m (e ∷ es) fit h l = code_lies (slice_index_or admitted m.name false) at m m.body (e ∷ es) fit h l

  pub rewritten_lies : (p : Program) (c : Changed) → IsRewrittenBy writes admitted p c → WritesWell p → LaysOut p → LaysOut c.program
  rewritten_lies p c r fit l = subst (λ (q : Program). LaysOut q) (sym r.written.program)
      (all_by ClassLies class_by r.plan p.classes (λ k d e x.
      let plan = r.asked.each k d (got_short p.classes k d e) e in
      all_by MethodLies method_by (slice_index_or r.plan k []) d.methods (λ j m i y.
      method_lies (record { class = word k; place = word j }) m (slice_index_or (slice_index_or r.plan k []) j []) (λ b s w. fit k j d m b (record { class = word k; place = word j }) (slice_index_or (slice_index_or r.plan k []) j []) e i s w)
      (plan.each j m (got_short d.methods j m i) i) y) x) l)
