-- How protos are spelled, and marks by number.
use Rattle.std.proofs.Common.{◌≡◌, ℕ, zero, suc, ◌+◌, ◌<◌, Bool, true, false, List, [], ◌∷◌, ◌++◌, map, length, take, get_or, Option, Some, None, refl, sym, ap, ◌∙◌}
use Rattle.std.specs.Prelude.{◌&&◌, slice_get, slice_index_or}
use Rattle.std.specs.List.{concat}
use Rattle.std.proofs.lemmas.List.{take_more}
use Rattle.program_model.specs.declared.program.Program.{Program}
use Rattle.program_model.specs.declared.pools.MethodName.{MethodName}
use Rattle.program_model.specs.declared.pools.Proto.{Proto}
use Rattle.program_model.specs.TableRules.{method_id_fits}
use Rattle.program_model.specs.ProgramRules.{is_well_formed}
use Rattle.program_model.specs.Texts.{has_proto, has_string, has_type}
use Rattle.class_defs.proofs.Positions.{entry_at}
use Rattle.class_defs.proofs.WellFormed.{and_left, and_right, all_at, below, sound}
use Rattle.dalvik_defs.specs.Names.{Text, proto_text, method_eq, object_constructor}
use Rattle.dalvik_defs.specs.Naming.{type_at, text_at, signature_at, method_at}
use Rattle.dalvik_defs.specs.declared.names.MethodKey.{MethodKey}
use Rattle.dalvik_defs.specs.declared.names.Signature.{Signature}
use Rattle.program_model.specs.declared.program.Class.{Class}
use Rattle.dalvik_lookups.specs.Starting.{class_default, has_default}
use Rattle.dalvik_lookups.specs.Spelling.{signature_of, spelled, is_constructor}

joined_more : (xs : List Text) (x : Text) → concat (xs ++ x ∷ []) ≡ concat xs ++ x
joined_more [] x = end x
  where
    end : (x : Text) → x ++ [] ≡ x
    end [] = refl
    end (u ∷ us) = ap (λ v. u ∷ v) (end us)
joined_more (y ∷ ys) x = ap (λ v. y ++ v) (joined_more ys x) ∙ sym (joined y (concat ys) x)
  where
    joined : (a b c : Text) → (a ++ b) ++ c ≡ a ++ (b ++ c)
    joined [] b c = refl
    joined (u ∷ us) b c = ap (λ v. u ∷ v) (joined us b c)

mapped_more : (f : ℕ → Text) (xs : List ℕ) (x : ℕ) → map f (xs ++ x ∷ []) ≡ map f xs ++ f x ∷ []
mapped_more f [] x = refl
mapped_more f (y ∷ ys) x = ap (λ v. f y ∷ v) (mapped_more f ys x)

-- one descriptor more
pub spelled_more : (f : ℕ → Text) (types : List ℕ) (i : ℕ) (units new : Text) (start : Text) → i < length types → units ≡ start ++ concat (map f (take i types)) → new ≡ units ++ f (get_or types i 0) → new ≡ start ++ concat (map f (take (i + 1) types))
spelled_more f types i units new start lt e g =
    let x = get_or types i 0 in
    g ∙ ap (λ v. v ++ f x) e ∙ joined start (concat (map f (take i types))) (f x)
    ∙ ap (λ v. start ++ v) (sym (ap (λ l. concat (map f l)) (take_more types i 0 lt) ∙ ap concat (mapped_more f (take i types) x) ∙ joined_more (map f (take i types)) (f x)))
  where
    joined : (a b c : Text) → (a ++ b) ++ c ≡ a ++ (b ++ c)
    joined [] b c = refl
    joined (u ∷ us) b c = ap (λ v. u ∷ v) (joined us b c)

-- the spelled proto of an entry is that of its name
pub spelled_is : (p : Program) → is_well_formed p ≡ true → (m : ℕ) (q : MethodName) → slice_get p.methods m ≡ Some q → spelled p (slice_get p.protos q.proto) ≡ proto_text (method_at p m).signature
spelled_is p w m q e =
    let fits = all_at (method_id_fits p) p.methods m q (sound p w).methods_fit e in
    let r = entry_at p.protos q.proto (below q.proto (length p.protos) (and_left (has_proto p q.proto) (has_string p q.name) (and_right (has_type p q.class) (has_proto p q.proto && has_string p q.name) fits))) in
    ap (spelled p) r.1 ∙ sym (ap proto_text (signature_is r.0 r.1)) ∙ sym (ap (λ o. proto_text (named o).signature) e)
  where
    named : Option MethodName → MethodKey
    named o = elim o [ Some n ↦ record { class = type_at p n.class; name = text_at p n.name; signature = signature_at p n.proto } | None ↦ record { class = []; name = []; signature = record { parameters = []; result = [] } } ]

    signature_is : (r : Proto) → slice_get p.protos q.proto ≡ Some r → signature_at p q.proto ≡ signature_of p r
    signature_is r h = ap (λ o. elim o as (λ o. Signature) [ Some q ↦ record { parameters = map (type_at p) q.parameters; result = type_at p q.result } | None ↦ record { parameters = []; result = [] } ]) h

-- a mark of a table made by a test
pub marked_at : {X : Type 0} (f : X → Bool) (xs : List X) (i : ℕ) → slice_index_or (map f xs) i false ≡ elim (slice_get xs i) as (λ o. Bool) [ Some x ↦ f x | None ↦ false ]
marked_at f [] i = refl
marked_at f (x ∷ xs) zero = refl
marked_at f (x ∷ xs) (suc i) = marked_at f xs i

pub constructor_at : (p : Program) (m : ℕ) → slice_index_or (map (is_constructor p) p.methods) m false ≡ method_eq (method_at p m) object_constructor
constructor_at p m = marked_at (is_constructor p) p.methods m ∙ by_entry (slice_get p.methods m)
  where
    by_entry : (o : Option MethodName) → elim o as (λ o. Bool) [ Some x ↦ is_constructor p x | None ↦ false ]
        ≡ method_eq (elim o as (λ o. MethodKey) [ Some n ↦ record { class = type_at p n.class; name = text_at p n.name; signature = signature_at p n.proto } | None ↦ record { class = []; name = []; signature = record { parameters = []; result = [] } } ]) object_constructor
    by_entry None = refl
    by_entry (Some n) = refl

pub default_at : (p : Program) (c : ℕ) → slice_index_or (map (class_default p) p.classes) c false ≡ has_default p (slice_get p.classes c)
default_at p c = marked_at (class_default p) p.classes c ∙ by_class (slice_get p.classes c)
  where
    by_class : (o : Option Class) → elim o as (λ o. Bool) [ Some x ↦ class_default p x | None ↦ false ] ≡ has_default p o
    by_class None = refl
    by_class (Some k) = refl
