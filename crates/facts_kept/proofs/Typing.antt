-- A folded program is typed.
use Rattle.std.proofs.Common.{◌≡◌, ℕ, suc, Bool, true, List, [], ◌∷◌, Option, Some, None, refl, sym, ap, ◌∙◌, subst}
use Rattle.std.specs.Prelude.{slice_get, Contains}
use Rattle.std.specs.Option.{option_map}
use Rattle.lemmas.proofs.Options.{none_some, some_same}
use Rattle.program_model.specs.ProgramRules.{is_well_formed}
use Rattle.program_model.specs.declared.body.Body.{Body}
use Rattle.program_model.specs.declared.pass.Changed.{Changed}
use Rattle.program_model.specs.declared.program.Class.{Class}
use Rattle.program_model.specs.declared.program.Method.{Method}
use Rattle.program_model.specs.declared.program.Program.{Program}
use Rattle.class_defs.specs.ClassGraph.{IsAncestor, IsTwice}
use Rattle.class_defs.proofs.WellFormed.{Sound, sound}
use Rattle.hierarchy.specs.Shapes.{IsResolved}
use Rattle.hierarchy.specs.declared.build.Hierarchy.{Hierarchy}
use Rattle.dalvik_defs.specs.Find.{method_in}
use Rattle.dalvik_defs.specs.Naming.{body_of, named, named_class, named_method, type_at}
use Rattle.dalvik_defs.specs.Silence.{key_in}
use Rattle.dalvik_defs.specs.Under.{class_named}
use Rattle.dalvik_defs.specs.declared.names.MethodKey.{MethodKey}
use Rattle.dalvik_defs.specs.declared.program.NamedBody.{NamedBody}
use Rattle.dalvik_defs.specs.declared.program.NamedClass.{NamedClass}
use Rattle.dalvik_defs.specs.declared.program.NamedMethod.{NamedMethod}
use Rattle.pass_defs.specs.Typed.{IsTyped, IsTyping, Table}
use Rattle.program_laws.proofs.WellFormed.{well_placed}
use Rattle.program_laws.specs.Others.{Pairwise}
use Rattle.program_laws.specs.Numbered.{OtherNumberedMethod, OtherNumberedClass, OtherNumberedBodies}
use Rattle.program_laws.proofs.Named.{others_named}
use Rattle.program_laws.proofs.Typed.{others_typed}
use Rattle.program_laws.proofs.Transitive.{transitive}
use Rattle.removal_bridge.proofs.Listed.{Image, image}
use Rattle.removal_bridge.proofs.Members.{class_known, method_known}
use Rattle.bodies_kept.proofs.Rooted.{rooted}
use Rattle.premises.specs.Numbers.{AllHaveWords}
use Rattle.facts.specs.declared.facts.Facts.{Facts}
use Rattle.const_prop.specs.Folds.{IsFoldedBy}
use Rattle.facts_kept.specs.TypedFolds.{CodeHasWords, FoldsNamedSo, FoldsSo, NoCode, Same, Folded}
use Rattle.facts_kept.proofs.Bodies.{folded_typing}
use Rattle.facts_kept.proofs.TypedPlanned.{rewritten_so}

-- pairs of which more is known by their places
pairs_with : {A : Type 0} (R S : A → A → Type 0) (xs ys : List A) → Pairwise R xs ys → ((k : ℕ) (x y : A) → slice_get ys k ≡ Some y → R x y → S x y) → Pairwise S xs ys
pairs_with R S [] [] r h = tt
pairs_with R S [] (y ∷ ys) r h = absurd r
pairs_with R S (x ∷ xs) [] r h = absurd r
pairs_with R S (x ∷ xs) (y ∷ ys) r h = (h 0 x y refl r.0, pairs_with R S xs ys r.1 (λ k. h (suc k)))

module _ (p : Program) (h : Hierarchy) (facts : Facts) where
  -- folded code whose numbers have their bits
  abbrev FoldsWords : MethodKey → Option Body → Option Body → Type 0
  FoldsWords k a b = FoldsSo p h facts k a b × CodeHasWords b

  name_folds : (k : MethodKey) (a b : Option Body) → FoldsWords k a b → FoldsNamedSo p h facts k (option_map (body_of p) a) (option_map (body_of p) b)
  name_folds k a b x = record { before = a; behind = b; old = refl; new = refl; folds = x.0; words = x.1 }

  code_words : (q : Program) → AllHaveWords q → (i j : ℕ) (c : Class) (m : Method) → slice_get q.classes i ≡ Some c → slice_get c.methods j ≡ Some m → (o : Option Body) → m.body ≡ o → CodeHasWords o
  code_words q words i j c m e f None g = tt
  code_words q words i j c m e f (Some d) g = λ n x k. words.insns i j n c m d x e f g k

  with_words : (q : Program) → AllHaveWords q → OtherNumberedBodies (FoldsSo p h facts) p q → OtherNumberedBodies FoldsWords p q
  with_words q words o = record {
    same = o.same;
    classes = pairs_with (OtherNumberedClass (FoldsSo p h facts) p) (OtherNumberedClass FoldsWords p) p.classes q.classes o.classes (λ i c d e x. record {
      same = x.same;
      methods = pairs_with (OtherNumberedMethod (FoldsSo p h facts) p c) (OtherNumberedMethod FoldsWords p c) c.methods d.methods x.methods (λ j m n f y. record {
        same = y.same;
        coded = y.coded;
        related = (y.related, code_words q words i j d n e f n.body refl);
      });
    });
  }

  -- ---- each method

  module _ (w : is_well_formed p ≡ true) (r : IsResolved p h) (grounded : (class : ℕ) → IsAncestor p class class → ⊥) (typed : IsTyped (named p)) where
    s : Sound p
    s = sound p w

    once : (class : ℕ) → IsTwice p class → ⊥
    once = r.of.once

    -- the class of a name
    class_is : (i : ℕ) (c : Class) (d : NamedClass) → slice_get p.classes i ≡ Some c → Contains (named p).classes d → d.name ≡ (named_class p c).name → named_class p c ≡ d
    class_is i c d e k same =
        let x : Image (named_class p) p.classes d = image (named_class p) p.classes d k in
        let name : type_at p x.entry.name ≡ type_at p c.name = ap (λ (d : NamedClass). d.name) x.is ∙ same in
        some_same (named_class p c) (named_class p x.entry) (sym (class_known p s once i c e) ∙ sym (ap (class_named (named p)) name) ∙ class_known p s once x.place x.entry x.is_entry) ∙ x.is

    method_is : (i j : ℕ) (c : Class) (m : Method) (n : NamedMethod) → slice_get p.classes i ≡ Some c → slice_get c.methods j ≡ Some m → Contains (named_class p c).methods n → n.name ≡ (named_method p m).name → n.signature ≡ (named_method p m).signature → named_method p m ≡ n
    method_is i j c m n e f k name signature =
        let x : Image (named_method p) c.methods n = image (named_method p) c.methods n k in
        let one : (named_method p x.entry).name ≡ (named_method p m).name = ap (λ (n : NamedMethod). n.name) x.is ∙ name in
        let two : (named_method p x.entry).signature ≡ (named_method p m).signature = ap (λ (n : NamedMethod). n.signature) x.is ∙ signature in
        some_same (named_method p m) (named_method p x.entry)
        (sym (method_known p s i c e j m f) ∙ (λ k. method_in (named_class p c) (sym one k) (sym two k)) ∙ method_known p s i c e x.place x.entry x.is_entry) ∙ x.is

    method_typed : (c : NamedClass) (m : NamedMethod) (b : NamedBody) → Contains (named p).classes c → Contains c.methods m → FoldsNamedSo p h facts (key_in c m) m.body (Some b) → (t : Table) × IsTyping (named p) c m b t
    method_typed c m b i j x = by x.before x.behind x.folds x.old x.new x.words
      where
        by : (a o : Option Body) → FoldsSo p h facts (key_in c m) a o → m.body ≡ option_map (body_of p) a → Some b ≡ option_map (body_of p) o → CodeHasWords o → (t : Table) × IsTyping (named p) c m b t
        by _ _ NoCode e f words = none_some b (sym f)
        by _ _ (Same a) e f words = subst (λ z. (t : Table) × IsTyping (named p) c m z t) (some_same (body_of p a) b (sym f)) (typed.bodies c m (body_of p a) i j e)
        by _ _ (Folded at k n a d is_class is_method has key table asks judged folded) e f words =
            let class : named_class p k ≡ c = class_is at.class k c is_class i (ap (λ (k : MethodKey). k.class) key) in
            let method : named_method p n ≡ m = method_is at.class at.place k n m is_class is_method (subst (λ (c : NamedClass). Contains c.methods m) (sym class) j)
            (ap (λ (k : MethodKey). k.name) key) (ap (λ (k : MethodKey). k.signature) key) in
            let found : (t : Table) × IsTyping (named p) (named_class p k) (named_method p n) (body_of p d) t = folded_typing p h w r (transitive (named p) (rooted p w once grounded)) typed facts at k n a d is_class is_method has
            (well_placed p w c m (body_of p a) i j e) table asks judged folded words in
            subst (λ z. (t : Table) × IsTyping (named p) c m z t) (some_same (body_of p d) b (sym f))
            (subst (λ z. (t : Table) × IsTyping (named p) c z (body_of p d) t) method
            (subst (λ z. (t : Table) × IsTyping (named p) z (named_method p n) (body_of p d) t) class found))

    -- ---- the program

    pub folded_typed : (admitted : List Bool) (c : Changed) → IsFoldedBy p h facts admitted c → AllHaveWords c.program → IsTyped (named c.program)
    folded_typed admitted c x words = others_typed (FoldsNamedSo p h facts) (named p) (named c.program)
        (others_named FoldsWords (FoldsNamedSo p h facts) p name_folds c.program (with_words c.program words (rewritten_so p h facts admitted w c x))) method_typed
