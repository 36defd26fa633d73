-- The method made static that a number resolves to, by number, is the one that its name resolves to.
use Rattle.std.proofs.Common.{◌≡◌, ℕ, zero, suc, ◌<◌, Bool, true, false, true≢false, List, [], ◌∷◌, ◌++◌, length, Option, Some, None, refl, sym, ap, ◌∙◌, subst, arith}
use Rattle.std.specs.Prelude.{cond, find, flat_map, is_some, slice_get}
use Rattle.std.specs.Option.{option_and_then, option_or}
use Rattle.lemmas.proofs.Options.{none_some, some_same}
use Rattle.program_model.specs.Lookups as look
use Rattle.program_model.specs.declared.pools.MethodName.{MethodName}
use Rattle.program_model.specs.declared.program.Class.{Class}
use Rattle.program_model.specs.declared.program.Method.{Method}
use Rattle.program_model.specs.declared.program.MethodAt.{MethodAt}
use Rattle.program_model.specs.declared.program.Program.{Program}
use Rattle.class_defs.specs.ClassGraph.{IsTwice}
use Rattle.class_defs.specs.Finding as finding
use Rattle.class_defs.specs.Members.{own_method}
use Rattle.class_defs.proofs.WellFormed.{class_parts}
use Rattle.dalvik_defs.specs.Find.{Found, chain_from, chain_of, first_method, found_in, interfaces_from, method_in, passing, resolves_method}
use Rattle.dalvik_defs.specs.Names.{Text, text_eq}
use Rattle.dalvik_defs.specs.Naming.{method_at, named, named_class, named_method, type_at}
use Rattle.dalvik_defs.specs.Silence.{key_in}
use Rattle.dalvik_defs.specs.Under.{class_named}
use Rattle.dalvik_defs.specs.declared.names.MethodKey.{MethodKey}
use Rattle.dalvik_defs.specs.declared.program.NamedClass.{NamedClass}
use Rattle.dalvik_defs.specs.declared.program.NamedMethod.{NamedMethod}
use Rattle.dalvik_defs.specs.declared.program.NamedProgram.{NamedProgram}
use Rattle.name_bridge.specs.Named.{found_at, found_of, found_there}
use Rattle.name_bridge.proofs.Resolved.{resolves_by_number}
use Rattle.name_bridge.proofs.Tables.{Sound, method_is}
use Rattle.removal_bridge.proofs.Members.{class_known, method_known}
use Rattle.static_law.specs.Edited.{IsOwn, IsPlanned, LetsClass, loose_in, target_at, target_method, target_of}
use Rattle.static_law.proofs.Classes.{placed_below}
use Rattle.static_law.proofs.Tables.{loose_number}

-- a class's own method is what its name resolves to
resolves_own : (p : NamedProgram) (t : Text) (c : NamedClass) (k : MethodKey) (m : NamedMethod) → k.class ≡ t → class_named p t ≡ Some c → method_in c k.name k.signature ≡ Some m → resolves_method p k ≡ Some (found_in c m)
resolves_own p t c k m same e i = by (length p.classes) (long p.classes e)
  where
    long : (cs : List NamedClass) → find (λ c. text_eq c.name t) cs ≡ Some c → (n : ℕ) × (length cs ≡ suc n)
    long [] h = none_some c h
    long (d ∷ ds) h = (length ds, refl)

    case : (n : ℕ) → Option NamedClass → List NamedClass
    case n o = elim o as (λ o. List NamedClass) [ Some c ↦ c ∷ chain_from n p c.superclass | None ↦ [] ]

    by : (n : ℕ) → (z : ℕ) × (n ≡ suc z) → first_method (λ m. true) k.name k.signature (chain_from n p k.class ++ interfaces_from (length p.classes) p (flat_map (λ c. c.interfaces) (chain_of p k.class))) ≡ Some (found_in c m)
    by n z =
        ap (λ n. first_method (λ m. true) k.name k.signature (chain_from n p k.class ++ interfaces_from (length p.classes) p (flat_map (λ c. c.interfaces) (chain_of p k.class)))) z.1
        ∙ (ap (λ o. first_method (λ m. true) k.name k.signature (case z.0 o ++ interfaces_from (length p.classes) p (flat_map (λ c. c.interfaces) (chain_of p k.class)))) (ap (class_named p) same ∙ e)
        ∙ ap (λ o. option_or (passing (λ m. true) c o) (first_method (λ m. true) k.name k.signature (chain_from z.0 p c.superclass ++ interfaces_from (length p.classes) p (flat_map (λ c. c.interfaces) (chain_of p k.class))))) i)

module _ (given : ℕ → Option ℕ) (p : Program) (s : Sound p) (twice : (class : ℕ) → IsTwice p class → ⊥) where
  -- the name of a method at its places
  pub key_there : (i : ℕ) (c : Class) (e : slice_get p.classes i ≡ Some c) (j : ℕ) (m : Method) (f : slice_get c.methods j ≡ Some m) → key_in (named_class p c) (named_method p m) ≡ method_at p m.name
  key_there i c e j m f =
      let fits = (class_parts p s i c e).methods j m f in
      ap (λ (t : Text). record (method_at p m.name) { class = t }) (sym (ap (type_at p) fits.owner))
      ∙ (ap (λ (k : MethodKey). record k { class = type_at p fits.entry.class }) (method_is p s m.name fits.entry fits.is) ∙ sym (method_is p s m.name fits.entry fits.is))

  number_there : (i : ℕ) (c : Class) (e : slice_get p.classes i ≡ Some c) (j : ℕ) (m : Method) (f : slice_get c.methods j ≡ Some m) → m.name < length p.methods
  number_there i c e j m f = let fits = (class_parts p s i c e).methods j m f in placed_below p.methods m.name fits.entry fits.is

  -- what stands at a place
  record AtPlace (at : MethodAt) (m : Method) : Type 0 where
    pub class : Class
    pub is_class : slice_get p.classes at.class ≡ Some class
    pub is_method : slice_get class.methods at.place ≡ Some m

  at_place : (at : MethodAt) (m : Method) → look.method_at p at ≡ Some m → AtPlace at m
  at_place at m e = by (slice_get p.classes at.class) refl e
    where
      by : (o : Option Class) → slice_get p.classes at.class ≡ o → option_and_then (λ (c : Class). slice_get c.methods at.place) o ≡ Some m → AtPlace at m
      by None i h = none_some m h
      by (Some c) i h = record { class = c; is_class = i; is_method = h }

  found_is : (at : MethodAt) (m : Method) (x : AtPlace at m) → found_at p at ≡ Some (found_in (named_class p x.class) (named_method p m))
  found_is at m x = ap (found_of p at.place) x.is_class ∙ ap (found_there p x.class) x.is_method

  -- where something is found by name, it stands at the place
  found_place : (at : MethodAt) (g : Found) → found_at p at ≡ Some g → (m : Method) × (look.method_at p at ≡ Some m)
  found_place at g e = by (slice_get p.classes at.class) refl e
    where
      in_class : (c : Class) → slice_get p.classes at.class ≡ Some c → (o : Option Method) → slice_get c.methods at.place ≡ o → found_there p c o ≡ Some g → (m : Method) × (look.method_at p at ≡ Some m)
      in_class c i None j h = none_some g h
      in_class c i (Some m) j h = (m, ap (option_and_then (λ (c : Class). slice_get c.methods at.place)) i ∙ j)

      by : (o : Option Class) → slice_get p.classes at.class ≡ o → found_of p at.place o ≡ Some g → (m : Method) × (look.method_at p at ≡ Some m)
      by None i h = none_some g h
      by (Some c) i h = in_class c i (slice_get c.methods at.place) refl h

  -- a number that resolves stands in the table
  number_in : (n : ℕ) (at : MethodAt) → finding.resolves_method p n ≡ Some at → n < length p.methods
  number_in n at e = by (slice_get p.methods n) refl e
    where
      by : (o : Option MethodName) → slice_get p.methods n ≡ o
          → finding.by_entry (λ q. finding.first_among (own_method p q.name q.proto) (finding.resolution_of p (look.class_place p q.class))) o ≡ Some at → n < length p.methods
      by None i h = none_some at h
      by (Some q) i h = placed_below p.methods n q i

  abbrev target : ℕ → Option ℕ
  target = target_of p given

  found : (n t : ℕ) → target n ≡ Some t → (g : Found) × ((resolves_method (named p) (method_at p n) ≡ Some g) × ((g.key ≡ method_at p t) × (is_some (given t) ≡ true)))
  found n t e = by (finding.resolves_method p n) refl e
    where
      chosen : (m : Method) (b : Bool) → is_some (given m.name) ≡ b → cond b (Some m.name) None ≡ Some t → (m.name ≡ t) × (is_some (given t) ≡ true)
      chosen m true g h = let same = some_same m.name t h in (same, ap (λ k. is_some (given k)) (sym same) ∙ g)
      chosen m false g h = none_some t h

      at_method : (at : MethodAt) → finding.resolves_method p n ≡ Some at → (o : Option Method) → look.method_at p at ≡ o → target_method given o ≡ Some t
          → (g : Found) × ((resolves_method (named p) (method_at p n) ≡ Some g) × ((g.key ≡ method_at p t) × (is_some (given t) ≡ true)))
      at_method at i None j h = none_some t h
      at_method at i (Some m) j h =
          let x = at_place at m j in
          let c = chosen m (is_some (given m.name)) refl h in (
            found_in (named_class p x.class) (named_method p m),
            (
              resolves_by_number p s n (number_in n at i) ∙ (ap (option_and_then (found_at p)) i ∙ found_is at m x),
              (key_there at.class x.class x.is_class at.place m x.is_method ∙ ap (method_at p) c.0, c.1),
            ),
          )

      by : (o : Option MethodAt) → finding.resolves_method p n ≡ o → target_at p given o ≡ Some t
          → (g : Found) × ((resolves_method (named p) (method_at p n) ≡ Some g) × ((g.key ≡ method_at p t) × (is_some (given t) ≡ true)))
      by None i h = none_some t h
      by (Some at) i h = at_method at i (look.method_at p at) refl h

  unchosen : (m : Method) → target_method given (Some m) ≡ None → is_some (given m.name) ≡ false
  unchosen m e = by (is_some (given m.name)) refl e
    where
      by : (b : Bool) → is_some (given m.name) ≡ b → cond b (Some m.name) None ≡ None → b ≡ false
      by false g h = refl
      by true g h = none_some m.name (sym h)

  others : (n : ℕ) (g : Found) → n < length p.methods → target n ≡ None → resolves_method (named p) (method_at p n) ≡ Some g → loose_in p given g.key ≡ false
  others n g low e r = by (finding.resolves_method p n) refl (sym (resolves_by_number p s n low) ∙ r)
    where
      by : (o : Option MethodAt) → finding.resolves_method p n ≡ o → option_and_then (found_at p) o ≡ Some g → loose_in p given g.key ≡ false
      by None i h = none_some g h
      by (Some at) i h =
          let m = found_place at g h in
          let x = at_place at m.0 m.1 in
          let same : found_in (named_class p x.class) (named_method p m.0) ≡ g = some_same (found_in (named_class p x.class) (named_method p m.0)) g (sym (found_is at m.0 x) ∙ h) in
          let key : method_at p m.0.name ≡ g.key = sym (key_there at.class x.class x.is_class at.place m.0 x.is_method) ∙ ap (λ (g : Found). g.key) same in
          let none : target_method given (Some m.0) ≡ None = sym (ap (target_at p given) i ∙ ap (target_method given) m.1) ∙ e in
          sym (ap (loose_in p given) key) ∙ (loose_number given p s m.0.name (number_there at.class x.class x.is_class at.place m.0 x.is_method) ∙ unchosen m.0 none)

  module _ (own : (n : ℕ) → is_some (given n) ≡ true → IsOwn p n) where
    itself : (n : ℕ) → target n ≡ None → is_some (given n) ≡ false
    itself n e = by (is_some (given n)) refl
      where
        by : (b : Bool) → is_some (given n) ≡ b → b ≡ false
        by false g = refl
        by true g =
            let m = own n g in
            let key = key_there m.class_place m.class m.is_class m.place m.method m.is_method ∙ ap (method_at p) m.number in
            let low = subst (λ k. k < length p.methods) m.number (number_there m.class_place m.class m.is_class m.place m.method m.is_method) in
            let r = resolves_own (named p) (type_at p m.class.name) (named_class p m.class) (key_in (named_class p m.class) (named_method p m.method)) (named_method p m.method) refl
            (class_known p s twice m.class_place m.class m.is_class) (method_known p s m.class_place m.class m.is_class m.place m.method m.is_method) in
            let loose = others n (found_in (named_class p m.class) (named_method p m.method)) low e (ap (resolves_method (named p)) (sym key) ∙ r) in
            sym (ap (loose_in p given) key ∙ (loose_number given p s n low ∙ g)) ∙ loose

    pub targets_planned : ((class : ℕ) (c : Class) → slice_get p.classes class ≡ Some c → LetsClass given c) → IsPlanned p given (target_of p given)
    targets_planned lets = record { inside = inside; found = found; itself = itself; others = others; lets = lets }
      where
        inside : (n k : ℕ) → given n ≡ Some k → slice_get p.methods n ≡ None → ⊥
        inside n k g none =
            let m = own n (ap is_some g) in
            let fits = (class_parts p s m.class_place m.class m.is_class).methods m.place m.method m.is_method in
            none_some fits.entry (sym none ∙ (ap (slice_get p.methods) (sym m.number) ∙ fits.is))
