-- What a plan of folds makes of a program is a program with bodies that are folded by facts and kinds.
use Rattle.std.proofs.Common.{◌≡◌, ℕ, zero, suc, ◌<◌, Bool, true, false, true≢false, List, [], ◌∷◌, length, Option, Some, None, ◌⊎◌, inl, inr, refl, sym, ap, ◌∙◌, subst, arith, nat_eq}
use Rattle.std.specs.Prelude.{◌^◌, ◌||◌, All, if◌then◌else◌, is_some, slice_get, slice_set, slice_index_or}
use Rattle.std.specs.List.{list_any}
use Rattle.std.proofs.lemmas.Bool.{eqb-true, eq-eqb}
use Rattle.std.proofs.lemmas.List.Elements.{All-head, All-tail}
use Rattle.insn_set.specs.declared.form.Insn.{Insn}
use Rattle.program_model.specs.ProgramRules.{is_well_formed}
use Rattle.program_model.specs.declared.body.Body.{Body}
use Rattle.program_model.specs.declared.pass.Changed.{Changed}
use Rattle.program_model.specs.declared.program.Class.{Class}
use Rattle.program_model.specs.declared.program.Method.{Method}
use Rattle.program_model.specs.declared.program.MethodAt.{MethodAt}
use Rattle.program_model.specs.declared.program.Program.{Program}
use Rattle.class_defs.proofs.WellFormed.{few_classes}
use Rattle.dalvik_defs.specs.Naming.{named_class, named_method}
use Rattle.dalvik_defs.specs.Silence.{key_in}
use Rattle.dalvik_defs.specs.declared.names.MethodKey.{MethodKey}
use Rattle.facts.specs.declared.facts.Facts.{Facts}
use Rattle.hierarchy.specs.declared.build.Hierarchy.{Hierarchy}
use Rattle.verify.specs.Typings.{Table}
use Rattle.lemmas.proofs.Options.{none_some, some_same}
use Rattle.program_laws.specs.Numbered.{OtherNumberedMethod, OtherNumberedClass, OtherNumberedBodies}
use Rattle.rewrite_pass.specs.declared.edit.Edit.{Edit}
use Rattle.rewrite_pass.specs.Plans.{edited, body_edited, code_edited, method_by, class_by, program_by, word, HasEdits, HasPlan, IsPlan}
use Rattle.const_prop.specs.Allowed.{IsFoldOf, IsFold}
use Rattle.const_prop.specs.Folds.{AreFolds, IsFoldedBy, edit_of, edits_of, folds_of, is_asked, is_asked_of, is_typed}
use Rattle.const_prop.specs.Kinds.{is_narrow_move}
use Rattle.facts_kept.proofs.Planned.{get_below, pairs_by}
use Rattle.facts_kept.proofs.Few.{few_members}
use Rattle.facts_kept.specs.TypedFolds.{IsFoldedSo, FoldsSo, NoCode, Same, Folded}

-- ---- lists

set_here : (is : List Insn) (n : ℕ) (x g : Insn) → slice_get is n ≡ Some x → slice_get (slice_set is n g) n ≡ Some g
set_here [] n x g e = none_some x e
set_here (i ∷ is) zero x g e = refl
set_here (i ∷ is) (suc n) x g e = set_here is n x g e

set_away : (is : List Insn) (k n : ℕ) (g : Insn) → (n ≡ k → ⊥) → slice_get (slice_set is k g) n ≡ slice_get is n
set_away [] k n g d = refl
set_away (i ∷ is) zero zero g d = absurd (d refl)
set_away (i ∷ is) zero (suc n) g d = refl
set_away (i ∷ is) (suc k) zero g d = refl
set_away (i ∷ is) (suc k) (suc n) g d = set_away is k n g (λ e. d (ap suc e))

set_past : (is : List Insn) (k n : ℕ) (g : Insn) → slice_get is n ≡ None → slice_get (slice_set is k g) n ≡ None
set_past [] k n g e = e
set_past (i ∷ is) k zero g e = absurd (cc)
set_past (i ∷ is) zero (suc n) g e = e
set_past (i ∷ is) (suc k) (suc n) g e = set_past is k n g e

-- ---- what the typing is asked about

-- an edit of what the kinds allow comes of a fold, so where it stands over a move of one register the typing is asked
asked_there : (t : Option Table) (b : Body) (xs : List _) (n : ℕ) (e : Edit) → slice_get (edits_of t b xs) n ≡ Some e → is_asked_of (slice_get b.insns e.position) ≡ true → list_any (is_asked b) xs ≡ true
asked_there t b [] n e i a = none_some e i
asked_there t b (x ∷ xs) n e i a = by (is_typed t b x) n i (λ k j. asked_there t b xs k e j a)
  where
    behind : (c : Bool) → list_any (is_asked b) xs ≡ true → (c || list_any (is_asked b) xs) ≡ true
    behind true h = refl
    behind false h = h

    by : (v : Bool) (n : ℕ) → slice_get (if v then edit_of x ∷ edits_of t b xs else edits_of t b xs) n ≡ Some e → ((k : ℕ) → slice_get (edits_of t b xs) k ≡ Some e → list_any (is_asked b) xs ≡ true) → (is_asked b x || list_any (is_asked b) xs) ≡ true
    by false n i more = behind (is_asked b x) (more n i)
    by true zero i more = let same : edit_of x ≡ e = some_same (edit_of x) e i in ap (λ c. c || list_any (is_asked b) xs) (subst (λ (e : Edit). is_asked_of (slice_get b.insns e.position) ≡ true) (sym same) a)
    by true (suc n) i more = behind (is_asked b x) (more n i)

-- ---- bodies

module _ (p : Program) (facts : Facts) (t : Option Table) (asks : Bool) (at : MethodAt) (m : Method) (b : Body) where
  abbrev Stays : ℕ → Insn → Insn → Type 0
  Stays n f g = (g ≡ f) ⊎ (IsFoldOf p facts t at.class m.name b n g × (is_narrow_move f ≡ true → asks ≡ true))

  record Edits (is : List Insn) : Type 0 where
    here : (n : ℕ) (f : Insn) → slice_get b.insns n ≡ Some f → (g : Insn) × (slice_get is n ≡ Some g) × Stays n f g
    past : (n : ℕ) → slice_get b.insns n ≡ None → slice_get is n ≡ None

  abbrev Asks : Edit → Type 0
  Asks e = is_asked_of (slice_get b.insns e.position) ≡ true → asks ≡ true

  one_edit : (is : List Insn) (e : Edit) → Edits is → IsFold p facts t at m b e → Asks e → Edits (slice_set is e.position e.insn)
  one_edit is e h x w = record { here = here; past = λ n k. set_past is e.position n e.insn (h.past n k) }
    where
      here : (n : ℕ) (f : Insn) → slice_get b.insns n ≡ Some f → (g : Insn) × (slice_get (slice_set is e.position e.insn) n ≡ Some g) × Stays n f g
      here n f k = by (nat_eq n e.position) refl (h.here n f k)
        where
          by : (v : Bool) → nat_eq n e.position ≡ v → (g : Insn) × (slice_get is n ≡ Some g) × Stays n f g → (g : Insn) × (slice_get (slice_set is e.position e.insn) n ≡ Some g) × Stays n f g
          by false i r = (r.0, set_away is e.position n e.insn (λ j. true≢false (sym (eq-eqb n e.position j) ∙ i)) ∙ r.1, r.2)
          by true i r = let same : n ≡ e.position = eqb-true n e.position i in (
            e.insn,
            subst (λ q. slice_get (slice_set is q e.insn) n ≡ Some e.insn) same (set_here is n r.0 e.insn r.1),
            inr (
              subst (λ q. IsFoldOf p facts t at.class m.name b q e.insn) (sym same) x,
              λ j. w (ap is_asked_of (ap (slice_get b.insns) (sym same) ∙ k) ∙ j),
            ),
          )

  all_edits : (es : List Edit) (is : List Insn) → Edits is → All (IsFold p facts t at m b) es → ((n : ℕ) (e : Edit) → slice_get es n ≡ Some e → Asks e) → Edits (edited es is)
  all_edits [] is h a w = h
  all_edits (e ∷ es) is h a w = all_edits es (slice_set is e.position e.insn) (one_edit is e h (All-head (IsFold p facts t at m b) e es a) (w 0 e refl))
      (All-tail (IsFold p facts t at m b) e es a) (λ n x i. w (suc n) x i)

  pub folded_so : (es : List Edit) → All (IsFold p facts t at m b) es → ((n : ℕ) (e : Edit) → slice_get es n ≡ Some e → Asks e) → IsFoldedSo p facts t asks at.class m.name b (body_edited es b)
  folded_so es a w = let h : Edits (edited es b.insns) = all_edits es b.insns (record { here = λ n f k. (f, k, inl refl); past = λ n k. k }) a w in
      record { insns = h.here; ends = h.past; regions = refl; registers = refl; ins = refl }

-- ---- programs

same_so : (p : Program) (h : Hierarchy) (facts : Facts) (k : MethodKey) (o : Option Body) → FoldsSo p h facts k o o
same_so p h facts k None = NoCode
same_so p h facts k (Some b) = Same b

code_coded : (es : List Edit) (o : Option Body) → is_some (code_edited es o) ≡ is_some o
code_coded es None = refl
code_coded es (Some b) = refl

module _ (p : Program) (h : Hierarchy) (facts : Facts) (admitted : List Bool) (fits : is_well_formed p ≡ true) where
  abbrev W : MethodAt → Method → Body → List Edit → Type 0
  W = AreFolds p h facts

  abbrev R : MethodKey → Option Body → Option Body → Type 0
  R = FoldsSo p h facts

  module _ (class : ℕ) (c : Class) (is_class : slice_get p.classes class ≡ Some c) where
    whole_class : word class ≡ class
    whole_class = let l : class < length p.classes = get_below p.classes class c is_class in let q : length p.classes < 2 ^ 32 = few_classes p fits in omega (arith, l, q)

    module _ (n : ℕ) (m : Method) (has : slice_get c.methods n ≡ Some m) where
      whole_place : word n ≡ n
      whole_place = let l : n < length c.methods = get_below c.methods n m has in let q : length c.methods < 2 ^ 32 = few_members p fits class c is_class in omega (arith, l, q)

      abbrev at : MethodAt
      at = record { class = word class; place = word n }

      abbrev key : MethodKey
      key = key_in (named_class p c) (named_method p m)

      folds : (b : Body) (es : List Edit) → m.body ≡ Some b → W at m b es → R key (Some b) (Some (body_edited es b))
      folds b es e z =
          let asks : Bool = list_any (is_asked b) (folds_of p facts at.class m.name b) in
          Folded at c m b (body_edited es b) (ap (slice_get p.classes) whole_class ∙ is_class) (ap (slice_get c.methods) whole_place ∙ has) e refl z.table asks z.judged
          (folded_so p facts z.table asks at m b es z.each
          (λ k x i a. asked_there z.table b (folds_of p facts at.class m.name b) k x (ap (λ es. slice_get es k) (sym z.are) ∙ i) a))

      by_code : (adm : Bool) (o : Option Body) → m.body ≡ o → (es : List Edit) → HasEdits W adm at m o es → R key o (code_edited es o)
      by_code adm None e es h = NoCode
      by_code true (Some b) e es z = folds b es e z
      by_code false (Some b) e es h = subst (λ es. R key (Some b) (code_edited es (Some b))) (sym h) (Same b)

      method_other : (adm : Bool) (es : List Edit) → HasEdits W adm at m m.body es → OtherNumberedMethod R p c m (method_by es m)
      method_other adm [] z = record { same = refl; coded = refl; related = same_so p h facts key m.body }
      method_other adm (e ∷ es) z = record { same = refl; coded = code_coded (e ∷ es) m.body; related = by_code adm m.body refl (e ∷ es) z }

    class_other : (ps : List (List Edit)) → HasPlan W admitted (word class) c.methods ps → OtherNumberedClass R p c (class_by ps c)
    class_other ps z = record {
      same = refl;
      methods = pairs_by method_by (OtherNumberedMethod R p c) c.methods ps z.long
          (λ k m e. method_other k m e (slice_index_or admitted m.name false) (slice_index_or ps k []) (z.each k m (get_below c.methods k m e) e));
    }

  planned_so : (plan : List (List (List Edit))) → IsPlan W admitted p.classes plan → OtherNumberedBodies R p (program_by plan p)
  planned_so plan z = record {
    same = refl;
    classes = pairs_by class_by (OtherNumberedClass R p) p.classes plan z.long
        (λ k c e. class_other k c e (slice_index_or plan k []) (z.each k c (get_below p.classes k c e) e));
  }

  pub rewritten_so : (c : Changed) → IsFoldedBy p h facts admitted c → OtherNumberedBodies R p c.program
  rewritten_so c r = subst (OtherNumberedBodies R p) (sym r.written.program) (planned_so r.plan r.asked)
