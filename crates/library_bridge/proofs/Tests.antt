-- Tests of all classes by number and by names, and what a library says.
use Rattle.std.proofs.Common.{◌≡◌, ℕ, zero, suc, ◌+◌, ◌<◌, Bool, List, [], ◌∷◌, ◌++◌, map, length, Option, Some, None, refl, ap, ◌∙◌, arith}
use Rattle.std.specs.Prelude.{◌&&◌, ◌||◌, not, slice_get}
use Rattle.std.specs.List.{concat, flat_map, list_any, list_all}
use Rattle.program_model.specs.declared.pools.Proto.{Proto}
use Rattle.program_model.specs.declared.program.Class.{Class}
use Rattle.program_model.specs.declared.program.Program.{Program}
use Rattle.program_model.specs.Texts.{type_text}
use Rattle.program_model.specs.MemberRules.{is_object}
use Rattle.dalvik_defs.specs.Names as spelled
use Rattle.dalvik_defs.specs.Names.{Text}
use Rattle.dalvik_defs.specs.Naming.{type_at, signature_at, named_class}
use Rattle.dalvik_defs.specs.Shut as shut
use Rattle.dalvik_defs.specs.declared.names.Signature.{Signature}
use Rattle.dalvik_defs.specs.declared.program.NamedClass.{NamedClass}
use Rattle.name_bridge.proofs.Found.{type_same}
use Rattle.stub_library.specs.Stubs as stub
use Rattle.stub_library.specs.Shut.{each_class, some_class, declares, declares_method, above_of, walk_clear}
use Rattle.stub_library.specs.declared.library.Library.{Library}
use Rattle.library_bridge.specs.Libraries.{library_of}

pub all_same : {X : Type 0} (f g : X → Bool) (xs : List X) → ((x : X) → f x ≡ g x) → list_all f xs ≡ list_all g xs
all_same f g [] h = refl
all_same f g (x ∷ xs) h = ap (λ b. b && list_all f xs) (h x) ∙ ap (λ b. g x && b) (all_same f g xs h)

-- tests over what items are named
pub all_named : {X Y : Type 0} (name : X → Y) (f : Y → Bool) (g : X → Bool) (xs : List X) → ((i : ℕ) (x : X) → slice_get xs i ≡ Some x → f (name x) ≡ g x) → list_all f (map name xs) ≡ list_all g xs
all_named name f g [] h = refl
all_named name f g (x ∷ xs) h = ap (λ b. b && list_all f (map name xs)) (h 0 x refl) ∙ ap (λ b. g x && b) (all_named name f g xs (λ i y e. h (suc i) y e))

pub any_named : {X Y : Type 0} (name : X → Y) (f : Y → Bool) (g : X → Bool) (xs : List X) → ((i : ℕ) (x : X) → slice_get xs i ≡ Some x → f (name x) ≡ g x) → list_any f (map name xs) ≡ list_any g xs
any_named name f g [] h = refl
any_named name f g (x ∷ xs) h = ap (λ b. b || list_any f (map name xs)) (h 0 x refl) ∙ ap (λ b. g x || b) (any_named name f g xs (λ i y e. h (suc i) y e))

pub each_named : (p : Program) (f : NamedClass → Bool) (g : ℕ → Class → Bool) (s : ℕ) (cs : List Class) → ((j d : ℕ) (k : Class) → slice_get cs j ≡ Some k → d ≡ s + j → f (named_class p k) ≡ g d k)
    → list_all f (map (named_class p) cs) ≡ each_class g s cs
each_named p f g s [] h = refl
each_named p f g s (c ∷ cs) h =
    ap (λ b. b && list_all f (map (named_class p) cs)) (h 0 s c refl (let z : s ≡ s + 0 = omega arith in z))
    ∙ ap (λ b. g s c && b) (each_named p f g (suc s) cs (λ j d k e y. h (suc j) d k e (omega (arith, y))))

pub some_named : (p : Program) (f : NamedClass → Bool) (g : ℕ → Class → Bool) (s : ℕ) (cs : List Class) → ((j d : ℕ) (k : Class) → slice_get cs j ≡ Some k → d ≡ s + j → f (named_class p k) ≡ g d k)
    → list_any f (map (named_class p) cs) ≡ some_class g s cs
some_named p f g s [] h = refl
some_named p f g s (c ∷ cs) h =
    ap (λ b. b || list_any f (map (named_class p) cs)) (h 0 s c refl (let z : s ≡ s + 0 = omega arith in z))
    ∙ ap (λ b. g s c || b) (some_named p f g (suc s) cs (λ j d k e y. h (suc j) d k e (omega (arith, y))))

-- ---- the library

-- a proto's text
concat_named : (f g : ℕ → List ℕ) (xs : List ℕ) → ((x : ℕ) → f x ≡ g x) → concat (map f xs) ≡ flat_map g xs
concat_named f g [] h = refl
concat_named f g (x ∷ xs) h = ap (λ t. t ++ concat (map f xs)) (h x) ∙ ap (λ t. g x ++ t) (concat_named f g xs h)

pub proto_named : (p : Program) (n : ℕ) → n < length p.protos → spelled.proto_text (signature_at p n) ≡ stub.proto_text p n
proto_named p n lt = by (slice_get p.protos n) refl
  where
    got : (xs : List Proto) (i : ℕ) → slice_get xs i ≡ None → i < length xs → Some zero ≡ None
    got [] i e l = absurd (omega (arith, l))
    got (x ∷ xs) zero e l = absurd (cc)
    got (x ∷ xs) (suc i) e l = got xs i e (omega (arith, l))

    by : (o : Option Proto) → slice_get p.protos n ≡ o
        → spelled.proto_text (elim o as (λ o. Signature) [ Some q ↦ record { parameters = map (type_at p) q.parameters; result = type_at p q.result } | None ↦ record { parameters = []; result = [] } ])
        ≡ (elim o as (λ o. List ℕ) [ Some q ↦ 40 ∷ (flat_map (type_text p) q.parameters ++ 41 ∷ type_text p q.result) | None ↦ [] ])
    by None e = let z = got p.protos n e lt in absurd (cc)
    by (Some q) e =
        ap (λ t. 40 ∷ (t ++ 41 ∷ type_at p q.result)) (concat_named (type_at p) (type_text p) q.parameters (type_same p))
        ∙ ap (λ t. 40 ∷ (flat_map (type_text p) q.parameters ++ 41 ∷ t)) (type_same p q.result)

pub walk_named : (l : Library) (n : Text) (g : Signature) (k : ℕ) (t : Text) → shut.walk_clear k (library_of l) n g t ≡ walk_clear k l n (spelled.proto_text g) t
walk_named l n g zero t = refl
walk_named l n g (suc k) t = ap (λ b. (is_object t || declares l t) && not (declares_method l t n (spelled.proto_text g)) && b)
    (all_same (shut.walk_clear k (library_of l) n g) (walk_clear k l n (spelled.proto_text g)) (above_of l t) (walk_named l n g k))
