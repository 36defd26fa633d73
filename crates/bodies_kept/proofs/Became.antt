-- What became of the methods of a program that a pass thinned.
use Rattle.std.proofs.Common.{◌≡◌, ℕ, Bool, true, false, if◌then◌else◌, List, [], ◌∷◌, length, refl, sym, ap, ◌∙◌, subst, nat_eq}
use Rattle.std.specs.Prelude.{Option, Some, None, is_some, slice_index_or, Contains}
use Rattle.std.specs.List.{AllZip}
use Rattle.lemmas.proofs.Lists.{contains_here, contains_there}
use Rattle.program_model.specs.ProgramRules.{is_well_formed}
use Rattle.program_model.specs.LineRules.{lines_fit}
use Rattle.program_model.specs.BodyRules.{body_fits}
use Rattle.program_model.specs.declared.body.Body.{Body}
use Rattle.program_model.specs.declared.program.Method.{Method}
use Rattle.program_model.specs.declared.program.Class.{Class}
use Rattle.program_model.specs.declared.program.Program.{Program}
use Rattle.program_model.specs.declared.pass.Changed.{Changed}
use Rattle.dalvik_defs.specs.Naming.{body_of, named_class, named_method}
use Rattle.dalvik_defs.specs.Silence.{key_in}
use Rattle.dalvik_defs.specs.declared.names.MethodKey.{MethodKey}
use Rattle.pass_defs.specs.Thinned.{place, body_thinned}
use Rattle.body_edit.specs.Fates.{fates_of}
use Rattle.body_edit.specs.declared.fate.Fate.{Fate}
use Rattle.program_laws.specs.Others.{Pairwise}
use Rattle.program_laws.specs.Numbered.{NumberedCodes, OtherNumberedMethod, OtherNumberedClass, OtherNumberedBodies}
use Rattle.thin_laws.specs.Thins.{Right, ThinsNumbered, NoBody, SameBody, ThinnedBody}
use Rattle.thin_pass.specs.Wishing.{is_small, fates_from, FatesIf, HasFates}
use Rattle.thin_pass.specs.Plans.{changed_in, lines_left, method_thinned, method_by, methods_by, class_by, classes_by, program_by, AreFor, AreForClasses, IsThinnedBy}
use Rattle.thin_pass.proofs.Lighter.{method_same, stay_changes}
use Rattle.thin_laws.specs.Tidy.{IsTidy}
use Rattle.thin_laws.specs.Tidied.{TidiedMethod, Untouched, Tidied, TidiedClass, TidiedProgram}
use Rattle.thin_laws.proofs.Tidied.{code_rules}
use Rattle.bodies_kept.specs.Right.{fates_by}
use Rattle.bodies_kept.specs.Kept.{AnyCode}
use Rattle.bodies_kept.proofs.Lined.{lines_left_fit}

-- a method as it was, or with the code that the wishes for it leave
pub data Became (wishes : Body → List Fate → Type 0) (m : Method) : Method → Type 0 where
  AsItWas : Became wishes m m
  Thin : (b : Body) (ws : List Fate) → m.body ≡ Some b → wishes b ws
      → Became wishes m (record m { body = Some (body_thinned (fates_by ws b) b); lines = lines_left (fates_from b.insns ws 0 (length b.insns)) m.lines })

module _ (wishes : Body → List Fate → Type 0) (admitted : List Bool) where
  unchanged : (m : Method) (gs : List Fate) → changed_in gs ≡ 0 → Became wishes m (method_by gs m)
  unchanged m gs e = subst (Became wishes m) (sym (method_same gs m e)) AsItWas

  thinned : (m : Method) (b : Body) (ws : List Fate) → m.body ≡ Some b → wishes b ws → Became wishes m (method_by (fates_from b.insns ws 0 (length b.insns)) m)
  thinned m b ws e w = by (nat_eq (changed_in gs) 0)
    where
      gs : List Fate
      gs = fates_from b.insns ws 0 (length b.insns)

      is_body : method_thinned gs m ≡ record m { body = Some (body_thinned (fates_of gs) b); lines = lines_left gs m.lines }
      is_body = ap (λ (o : Option Body). elim o as (λ o. Method) [ Some b ↦ record m { body = Some (body_thinned (fates_of gs) b); lines = lines_left gs m.lines } | None ↦ m ]) e

      by : (z : Bool) → Became wishes m (if z then m else method_thinned gs m)
      by true = AsItWas
      by false = subst (Became wishes m) (sym is_body) (Thin b ws e w)

  pub became : (m : Method) (gs : List Fate) → HasFates wishes admitted m gs → Became wishes m (method_by gs m)
  became m gs h = by (is_small m) (slice_index_or admitted m.name false) m.body refl h
    where
      by : (small on : Bool) (o : Option Body) → m.body ≡ o → FatesIf wishes on small o gs → Became wishes m (method_by gs m)
      by false on o e d = unchanged m gs (ap changed_in d)
      by true on None e d = unchanged m gs (ap changed_in d)
      by true false (Some b) e d = unchanged m gs (ap changed_in d ∙ stay_changes (length b.insns))
      by true true (Some b) e d = subst (λ (hs : List Fate). Became wishes m (method_by hs m)) (sym d.fates) (thinned m b d.wished e d.are)

  -- what is said of each method and of what became of it
  methods_pair : (R : Method → Method → Type 0) (ms : List Method) (plan : List (List Fate)) → ((m n : Method) → Contains ms m → Became wishes m n → R m n) → AreFor (HasFates wishes admitted) ms plan → Pairwise R ms (methods_by plan ms)
  methods_pair R [] [] one h = tt
  methods_pair R [] (gs ∷ plan) one h = absurd h
  methods_pair R (m ∷ ms) [] one h = absurd h
  methods_pair R (m ∷ ms) (gs ∷ plan) one h = (one m (method_by gs m) (contains_here m ms) (became m gs h.0), methods_pair R ms plan (λ k n i b. one k n (contains_there m ms k i) b) h.1)

  classes_pair : (R : Class → Class → Type 0) (cs : List Class) (plan : List (List (List Fate))) → ((c : Class) (ps : List (List Fate)) → Contains cs c → AreFor (HasFates wishes admitted) c.methods ps → R c (class_by ps c))
      → AreForClasses (HasFates wishes admitted) cs plan → Pairwise R cs (classes_by plan cs)
  classes_pair R [] [] one h = tt
  classes_pair R [] (ps ∷ plan) one h = absurd h
  classes_pair R (c ∷ cs) [] one h = absurd h
  classes_pair R (c ∷ cs) (ps ∷ plan) one h = (one c ps (contains_here c cs) h.0, classes_pair R cs plan (λ d qs i a. one d qs (contains_there c cs d i) a) h.1)

module _ (wishes : Body → List Fate → Type 0) (admitted : List Bool) (p : Program) (c : Changed) (t : IsThinnedBy wishes admitted p c) where
  -- ---- other bodies

  module _ (R : NumberedCodes) (one : (k : Class) (m n : Method) → Contains p.classes k → Contains k.methods m → Became wishes m n → R (key_in (named_class p k) (named_method p m)) m.body n.body) where
    other_method : (k : Class) (m n : Method) → Contains p.classes k → Contains k.methods m → Became wishes m n → OtherNumberedMethod R p k m n
    other_method k m _ i j AsItWas = record { same = refl; coded = refl; related = one k m m i j AsItWas }
    other_method k m _ i j (Thin b ws e w) = record { same = refl; coded = sym (ap is_some e); related = one k m _ i j (Thin b ws e w) }

    other_class : (k : Class) (ps : List (List Fate)) → Contains p.classes k → AreFor (HasFates wishes admitted) k.methods ps → OtherNumberedClass R p k (class_by ps k)
    other_class k ps i a = record { same = refl; methods = methods_pair wishes admitted (OtherNumberedMethod R p k) k.methods ps (λ m n j h. other_method k m n i j h) a }

    pub others : OtherNumberedBodies R p c.program
    others = subst (λ (q : Program). OtherNumberedBodies R p q) (sym t.program) (record { same = refl; classes = classes_pair wishes admitted (OtherNumberedClass R p) p.classes t.plan other_class t.fates })

  pub any_others : OtherNumberedBodies AnyCode p c.program
  any_others = others AnyCode (λ k m n i j h. tt)

  -- thinned by fates that are right
  module _ (right : Right) (one : (k : Class) (m : Method) (b : Body) (ws : List Fate) → Contains p.classes k → Contains k.methods m → m.body ≡ Some b → wishes b ws → right (key_in (named_class p k) (named_method p m)) (fates_by ws b) (body_of p b)) where
    same_code : (k : MethodKey) (o : Option Body) → ThinsNumbered right p k o o
    same_code k None = NoBody
    same_code k (Some b) = SameBody b

    thins : (k : Class) (m n : Method) → Contains p.classes k → Contains k.methods m → Became wishes m n → ThinsNumbered right p (key_in (named_class p k) (named_method p m)) m.body n.body
    thins k m _ i j AsItWas = same_code (key_in (named_class p k) (named_method p m)) m.body
    thins k m _ i j (Thin b ws e w) = subst (λ (o : Option Body). ThinsNumbered right p (key_in (named_class p k) (named_method p m)) o (Some (body_thinned (fates_by ws b) b))) (sym e) (ThinnedBody (fates_by ws b) b (one k m b ws i j e w))

    pub thinned_others : OtherNumberedBodies (ThinsNumbered right p) p c.program
    thinned_others = others (ThinsNumbered right p) thins

  -- ---- tidy fates

  module _ (fits : is_well_formed p ≡ true) (one : (k : Class) (m : Method) (b : Body) (ws : List Fate) → Contains p.classes k → Contains k.methods m → m.body ≡ Some b → wishes b ws → (marks : ℕ → Bool) × IsTidy marks (fates_by ws b) b) where
    tidied_method : (k : Class) (m n : Method) → Contains p.classes k → Contains k.methods m → Became wishes m n → TidiedMethod m n
    tidied_method k m _ i j AsItWas = Untouched m
    tidied_method k m _ i j (Thin b ws e w) = let a = one k m b ws i j e w in
        Tidied m b a.0 (fates_by ws b) (lines_left (fates_from b.insns ws 0 (length b.insns)) m.lines) e a.1
        (lines_left_fit (place (fates_by ws b)) (fates_by ws b) b.insns m.lines (code_rules p k m b fits i j e).1)

    tidied_class : (k : Class) (ps : List (List Fate)) → Contains p.classes k → AreFor (HasFates wishes admitted) k.methods ps → TidiedClass k (class_by ps k)
    tidied_class k ps i a = record { same = refl; methods = methods_pair wishes admitted TidiedMethod k.methods ps (λ m n j h. tidied_method k m n i j h) a }

    pub tidied : TidiedProgram p c.program
    tidied = subst (λ (q : Program). TidiedProgram p q) (sym t.program) (record { same = refl; classes = classes_pair wishes admitted TidiedClass p.classes t.plan tidied_class t.fates })
