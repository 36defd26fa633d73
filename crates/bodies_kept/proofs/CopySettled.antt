-- Where copy propagation leaves a program the same, no read in an admitted method is stale.
use Rattle.std.proofs.Common.{◌≡◌, ℕ, zero, suc, ◌<◌, ◌^◌, Bool, true, List, [], ◌∷◌, length, map, Option, Some, Contains, refl, sym, ap, ap₂, ◌∙◌, subst, subst₂, arith}
use Rattle.std.specs.Prelude.{◌||◌, slice_get, slice_index_or}
use Rattle.std.specs.Option.{option_map}
use Rattle.program_model.specs.ProgramRules.{is_well_formed}
use Rattle.program_model.specs.declared.body.Body.{Body}
use Rattle.program_model.specs.declared.program.Method.{Method}
use Rattle.program_model.specs.declared.program.Class.{Class}
use Rattle.program_model.specs.declared.program.Program.{Program}
use Rattle.dalvik_defs.specs.Naming.{form_of, body_of, named_method, named_class, named}
use Rattle.insn_regs.specs.Wides.{widths_of}
use Rattle.walk_marks.specs.Walks.{is_on}
use Rattle.removal_bridge.proofs.WalkedForms.{same_reads, same_writes}
use Rattle.form_laws.specs.Solid as solid
use Rattle.form_laws.proofs.WellFormed.{well_formed_solid}
use Rattle.copy_prop.specs.Propagated.{AreEach, RewritesBody, IsPropagated, IsPropagatedMethod, IsPropagatedClass, IsPropagatedProgram}
use Rattle.bodies_kept.specs.CopyBridged.{HasRoom, AllFresh}
use Rattle.bodies_kept.proofs.Forms.{form_for}
use Rattle.bodies_kept.proofs.Rereads.{settles_by_number, pairs_by_number}

-- ---- items of lists

placed : {A : Type 0} (xs : List A) (x : A) (i : ℕ) → i < length xs → slice_index_or xs i x ≡ x → slice_get xs i ≡ Some x
placed [] x i lt e = absurd (omega (arith, lt))
placed (y ∷ ys) x zero lt e = ap Some e
placed (y ∷ ys) x (suc i) lt e = placed ys x i (omega (arith, lt)) e

-- what holds of a list beside itself holds of each item beside itself
each_self : {A : Type 0} (R : A → A → Type 0) (xs : List A) → AreEach R xs xs → (x : A) → Contains xs x → R x x
each_self {A} R xs a x i =
    let h : slice_get xs i.0 ≡ Some x = placed xs x i.0 i.1 i.2 in
    let u : (y : A) × (slice_get xs i.0 ≡ Some y) × R x y = a.each i.0 x h in
    let same : Some u.0 ≡ Some x = sym u.1 ∙ h in
    let is : u.0 ≡ x = cc in
    subst (λ y. R x y) is u.2

map_long : {A B : Type 0} (f : A → B) (xs : List A) → length (map f xs) ≡ length xs
map_long f [] = refl
map_long f (x ∷ xs) = ap suc (map_long f xs)

mapped_at : {A B : Type 0} (f : A → B) (xs : List A) (x : A) (i : ℕ) → slice_index_or xs i x ≡ x → slice_index_or (map f xs) i (f x) ≡ f x
mapped_at f [] x i e = refl
mapped_at f (y ∷ ys) x zero e = ap f e
mapped_at f (y ∷ ys) x (suc i) e = mapped_at f ys x i e

mapped : {A B : Type 0} (f : A → B) (xs : List A) (x : A) → Contains xs x → Contains (map f xs) (f x)
mapped f xs x i = (i.0, subst (λ n. i.0 < n) (sym (map_long f xs)) i.1, mapped_at f xs x i.0 i.2)

-- ---- bodies

-- instructions use registers that the body has, since its forms do by name
room_of : (p : Program) (b : Body) → solid.HasRoom (body_of p b) → HasRoom b
room_of p b room n r f h e = room n (form_of p f) r (form_for p b n f h) (ap₂ (λ x y. x || y) (same_reads p f r) (same_writes p f r) ∙ e)

code_settled : (w : List (List Bool)) (b : Body) (t : Bool) (o : Option Body) → t ≡ true → o ≡ Some b → RewritesBody w t o o → IsPropagated w b b
code_settled w b t o e f r = subst (λ x. RewritesBody w true x x) f (subst (λ y. RewritesBody w y o o) e r)

-- ---- programs

pub program_settled : (admitted : List Bool) (p : Program) → is_well_formed p ≡ true → IsPropagatedProgram admitted p p → AllFresh admitted p
program_settled admitted p formed i c m b n j k e f small stale =
    let class : IsPropagatedClass (widths_of p) admitted c c = each_self (IsPropagatedClass (widths_of p) admitted) p.classes i.classes c j in
    let method : IsPropagatedMethod (widths_of p) admitted m m = each_self (IsPropagatedMethod (widths_of p) admitted) c.methods class.methods m k in
    let room : HasRoom b = room_of p b (well_formed_solid p formed (named_class p c) (named_method p m) (body_of p b) (mapped (named_class p) p.classes c j) (mapped (named_method p) c.methods m k) (ap (option_map (body_of p)) f)).room in
    settles_by_number p b b (pairs_by_number b small room) (code_settled (widths_of p) b (is_on admitted m.name) m.body e f method.body) refl n stale
