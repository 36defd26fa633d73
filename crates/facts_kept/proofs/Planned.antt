-- What a plan of folds makes of a program is a program with folded bodies.
use Rattle.std.proofs.Common.{◌≡◌, ℕ, zero, suc, ◌+◌, ◌<◌, Bool, true, false, true≢false, min, List, [], ◌∷◌, length, Option, Some, None, ◌⊎◌, inl, inr, refl, sym, ap, ◌∙◌, subst, arith, nat_eq}
use Rattle.std.specs.Prelude.{◌^◌, All, is_some, slice_get, slice_set, slice_index_or, Contains}
use Rattle.std.proofs.lemmas.Bool.{eqb-true, eq-eqb}
use Rattle.std.proofs.lemmas.List.Elements.{All-head, All-tail}
use Rattle.insn_set.specs.declared.form.Insn.{Insn}
use Rattle.program_model.specs.ProgramRules.{is_well_formed}
use Rattle.program_model.specs.declared.body.Body.{Body}
use Rattle.program_model.specs.declared.pass.Changed.{Changed}
use Rattle.program_model.specs.declared.program.Class.{Class}
use Rattle.program_model.specs.declared.program.Method.{Method}
use Rattle.program_model.specs.declared.program.MethodAt.{MethodAt}
use Rattle.program_model.specs.declared.program.Program.{Program}
use Rattle.class_defs.proofs.WellFormed.{few_classes}
use Rattle.dalvik_defs.specs.Naming.{named_class, named_method}
use Rattle.dalvik_defs.specs.Silence.{key_in}
use Rattle.dalvik_defs.specs.declared.names.MethodKey.{MethodKey}
use Rattle.facts.specs.Lent.{frame_at}
use Rattle.facts.specs.declared.facts.Facts.{Facts}
use Rattle.hierarchy.specs.declared.build.Hierarchy.{Hierarchy}
use Rattle.verify.specs.Typings.{Table}
use Rattle.program_laws.specs.Others.{Pairwise}
use Rattle.program_laws.specs.Numbered.{OtherNumberedMethod, OtherNumberedClass, OtherNumberedBodies}
use Rattle.rewrite_pass.specs.declared.edit.Edit.{Edit}
use Rattle.rewrite_pass.specs.Plans.{edited, body_edited, code_edited, method_by, each_by, methods_by, class_by, classes_by, program_by, word, HasEdits, HasPlan, IsPlan}
use Rattle.const_prop.specs.Given.{given}
use Rattle.const_prop.specs.Allowed.{IsAllowed, IsFoldOf, IsFold, insn_before}
use Rattle.const_prop.specs.Folds.{AreFolds, IsFoldedBy}
use Rattle.facts_kept.specs.Folds.{IsFoldedBody, FoldsCode, NoCode, Same, Folded}

-- ---- lists

some_is : {A : Type 0} (x y : A) → Some x ≡ Some y → x ≡ y
some_is x y e = cc

set_here : (is : List Insn) (n : ℕ) (x g : Insn) → slice_get is n ≡ Some x → slice_get (slice_set is n g) n ≡ Some g
set_here [] n x g e = absurd (cc)
set_here (i ∷ is) zero x g e = refl
set_here (i ∷ is) (suc n) x g e = set_here is n x g e

set_away : (is : List Insn) (k n : ℕ) (g : Insn) → (n ≡ k → ⊥) → slice_get (slice_set is k g) n ≡ slice_get is n
set_away [] k n g d = refl
set_away (i ∷ is) zero zero g d = absurd (d refl)
set_away (i ∷ is) zero (suc n) g d = refl
set_away (i ∷ is) (suc k) zero g d = refl
set_away (i ∷ is) (suc k) (suc n) g d = set_away is k n g (λ e. d (ap suc e))

set_past : (is : List Insn) (k n : ℕ) (g : Insn) → slice_get is n ≡ None → slice_get (slice_set is k g) n ≡ None
set_past [] k n g e = e
set_past (i ∷ is) k zero g e = absurd (cc)
set_past (i ∷ is) zero (suc n) g e = e
set_past (i ∷ is) (suc k) (suc n) g e = set_past is k n g e

contains_at : {A : Type 0} (xs : List A) (n : ℕ) (x : A) → slice_get xs n ≡ Some x → Contains xs x
contains_at [] n x e = absurd (cc)
contains_at (y ∷ xs) zero x e = (0, omega arith, some_is y x e)
contains_at (y ∷ xs) (suc n) x e = let h : Contains xs x = contains_at xs n x e in (suc h.0, omega (arith, h.1), h.2)

pub get_below : {A : Type 0} (xs : List A) (n : ℕ) (x : A) → slice_get xs n ≡ Some x → n < length xs
get_below [] n x e = absurd (cc)
get_below (y ∷ xs) zero x e = omega arith
get_below (y ∷ xs) (suc n) x e = let l : n < length xs = get_below xs n x e in omega (arith, l)

pub pairs_by : {A E : Type 0} (by : List E → A → A) (R : A → A → Type 0) (xs : List A) (plan : List (List E)) → length plan ≡ length xs
    → ((k : ℕ) (x : A) → slice_get xs k ≡ Some x → R x (by (slice_index_or plan k []) x)) → Pairwise R xs (each_by by plan xs)
pairs_by by R [] [] l h = tt
pairs_by by R [] (es ∷ plan) l h = absurd (omega (arith, l))
pairs_by by R (x ∷ xs) [] l h = absurd (omega (arith, l))
pairs_by by R (x ∷ xs) (es ∷ plan) l h = (h 0 x refl, pairs_by by R xs plan (omega (arith, l)) (λ k y e. h (suc k) y e))

-- ---- bodies

module _ (p : Program) (facts : Facts) (t : Option Table) (at : MethodAt) (m : Method) (b : Body) where
  abbrev Stays : ℕ → Insn → Insn → Type 0
  Stays n f g = (g ≡ f) ⊎ IsAllowed p (given p facts at.class (insn_before b.insns n) f) (frame_at facts.frames.items m.name n) n f g

  record Edits (is : List Insn) : Type 0 where
    here : (n : ℕ) (f : Insn) → slice_get b.insns n ≡ Some f → (g : Insn) × (slice_get is n ≡ Some g) × Stays n f g
    past : (n : ℕ) → slice_get b.insns n ≡ None → slice_get is n ≡ None

  one_edit : (is : List Insn) (e : Edit) → Edits is → IsFold p facts t at m b e → Edits (slice_set is e.position e.insn)
  one_edit is e h x = record { here = here; past = λ n k. set_past is e.position n e.insn (h.past n k) }
    where
      here : (n : ℕ) (f : Insn) → slice_get b.insns n ≡ Some f → (g : Insn) × (slice_get (slice_set is e.position e.insn) n ≡ Some g) × Stays n f g
      here n f k = by (nat_eq n e.position) refl (h.here n f k)
        where
          by : (v : Bool) → nat_eq n e.position ≡ v → (g : Insn) × (slice_get is n ≡ Some g) × Stays n f g → (g : Insn) × (slice_get (slice_set is e.position e.insn) n ≡ Some g) × Stays n f g
          by false i r = (r.0, set_away is e.position n e.insn (λ j. true≢false (sym (eq-eqb n e.position j) ∙ i)) ∙ r.1, r.2)
          by true i r = let same : n ≡ e.position = eqb-true n e.position i in (
            e.insn,
            subst (λ q. slice_get (slice_set is q e.insn) n ≡ Some e.insn) same (set_here is n r.0 e.insn r.1),
            inr (subst (λ z. IsAllowed p (given p facts at.class (insn_before b.insns n) z) (frame_at facts.frames.items m.name n) n z e.insn) (some_is x.form f (sym x.there ∙ (ap (slice_get b.insns) (sym same) ∙ k)))
                (subst (λ q. IsAllowed p (given p facts at.class (insn_before b.insns q) x.form) (frame_at facts.frames.items m.name q) q x.form e.insn) (sym same) x.allowed)),
          )

  all_edits : (es : List Edit) (is : List Insn) → Edits is → All (IsFold p facts t at m b) es → Edits (edited es is)
  all_edits [] is h a = h
  all_edits (e ∷ es) is h a = all_edits es (slice_set is e.position e.insn) (one_edit is e h (All-head (IsFold p facts t at m b) e es a)) (All-tail (IsFold p facts t at m b) e es a)

  pub folded_body : (es : List Edit) → All (IsFold p facts t at m b) es → IsFoldedBody p facts at.class m.name b (body_edited es b)
  folded_body es a = let h : Edits (edited es b.insns) = all_edits es b.insns (record { here = λ n f k. (f, k, inl refl); past = λ n k. k }) a in
      record { insns = h.here; ends = h.past; regions = refl; registers = refl; ins = refl }

-- ---- programs

same_code : (p : Program) (facts : Facts) (k : MethodKey) (o : Option Body) → FoldsCode p facts k o o
same_code p facts k None = NoCode
same_code p facts k (Some b) = Same b

code_coded : (es : List Edit) (o : Option Body) → is_some (code_edited es o) ≡ is_some o
code_coded es None = refl
code_coded es (Some b) = refl

module _ (p : Program) (h : Hierarchy) (facts : Facts) (admitted : List Bool) (fits : is_well_formed p ≡ true) where
  abbrev W : MethodAt → Method → Body → List Edit → Type 0
  W = AreFolds p h facts

  module _ (class : ℕ) (c : Class) (is_class : slice_get p.classes class ≡ Some c) where
    whole : word class ≡ class
    whole = let l : class < length p.classes = get_below p.classes class c is_class in let q : length p.classes < 2 ^ 32 = few_classes p fits in omega (arith, l, q)

    module _ (n : ℕ) (m : Method) (has : slice_get c.methods n ≡ Some m) where
      abbrev at : MethodAt
      at = record { class = word class; place = word n }

      abbrev key : MethodKey
      key = key_in (named_class p c) (named_method p m)

      by_code : (adm : Bool) (o : Option Body) → m.body ≡ o → (es : List Edit) → HasEdits W adm at m o es → FoldsCode p facts key o (code_edited es o)
      by_code adm None e es h = NoCode
      by_code true (Some b) e es z = Folded class c m b (body_edited es b) is_class (contains_at c.methods n m has) e refl (subst (λ q. IsFoldedBody p facts q m.name b (body_edited es b)) whole (folded_body p facts z.table at m b es z.each))
      by_code false (Some b) e es h = subst (λ es. FoldsCode p facts key (Some b) (code_edited es (Some b))) (sym h) (Same b)

      method_other : (adm : Bool) (es : List Edit) → HasEdits W adm at m m.body es → OtherNumberedMethod (FoldsCode p facts) p c m (method_by es m)
      method_other adm [] h = record { same = refl; coded = refl; related = same_code p facts key m.body }
      method_other adm (e ∷ es) h = record { same = refl; coded = code_coded (e ∷ es) m.body; related = by_code adm m.body refl (e ∷ es) h }

    class_other : (ps : List (List Edit)) → HasPlan W admitted (word class) c.methods ps → OtherNumberedClass (FoldsCode p facts) p c (class_by ps c)
    class_other ps h = record {
      same = refl;
      methods = pairs_by method_by (OtherNumberedMethod (FoldsCode p facts) p c) c.methods ps h.long
          (λ k m e. method_other k m e (slice_index_or admitted m.name false) (slice_index_or ps k []) (h.each k m (get_below c.methods k m e) e));
    }

  pub planned_others : (plan : List (List (List Edit))) → IsPlan W admitted p.classes plan → OtherNumberedBodies (FoldsCode p facts) p (program_by plan p)
  planned_others plan h = record {
    same = refl;
    classes = pairs_by class_by (OtherNumberedClass (FoldsCode p facts) p) p.classes plan h.long
        (λ k c e. class_other k c e (slice_index_or plan k []) (h.each k c (get_below p.classes k c e) e));
  }

  pub rewritten_others : (c : Changed) → IsFoldedBy p h facts admitted c → OtherNumberedBodies (FoldsCode p facts) p c.program
  rewritten_others c r = subst (OtherNumberedBodies (FoldsCode p facts) p) (sym r.written.program) (planned_others r.plan r.asked)
