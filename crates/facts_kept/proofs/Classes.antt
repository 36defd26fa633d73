-- What stands above the classes of a well-formed program, by number.
use Rattle.std.proofs.Common.{◌≡◌, ℕ, ◌<◌, Bool, true, false, length, Option, Some, None, refl, sym, ap, ◌∙◌}
use Rattle.std.specs.Prelude.{◌&&◌, ◌||◌, nat_eq, not, option_and_then, slice_get}
use Rattle.std.specs.List.{list_all}
use Rattle.lemmas.proofs.Bools.{and_both, and_left, clash, not_true}
use Rattle.lemmas.proofs.Lists.{all_at, any_at, got_short}
use Rattle.lemmas.proofs.Options.{none_some}
use Rattle.program_model.specs.InterfaceRules.{defines_plain, defines_so, interfaces_stand_free, is_plain_class, stands_free}
use Rattle.program_model.specs.Lookups.{class_place}
use Rattle.program_model.specs.MemberRules.{has_flag}
use Rattle.program_model.specs.ProgramRules.{is_well_formed}
use Rattle.program_model.specs.declared.program.Class.{Class}
use Rattle.program_model.specs.declared.program.Program.{Program}
use Rattle.program_model.proofs.Formed.{formed}
use Rattle.class_defs.specs.Members.{is_interface}
use Rattle.class_defs.specs.Places.{super_place}
use Rattle.class_defs.proofs.Positions.{place_entry, PlaceFits}

pub record Placed (p : Program) (kind u : ℕ) : Type 0 where
  pub class : Class
  pub is : slice_get p.classes u ≡ Some class
  pub named : nat_eq class.name kind ≡ true

pub placed_class : (p : Program) (kind u : ℕ) → class_place p kind ≡ Some u → Placed p kind u
placed_class p kind u e = let x : PlaceFits (λ (c : Class). nat_eq c.name kind) p.classes u = place_entry (λ (c : Class). nat_eq c.name kind) p.classes u e in record { class = x.entry; is = x.is; named = x.passes }

pub place_short : (p : Program) (kind u : ℕ) → class_place p kind ≡ Some u → u < length p.classes
place_short p kind u e = let x = placed_class p kind u e in got_short p.classes u x.class x.is

record Above (p : Program) (c u : ℕ) : Type 0 where
  class : Class
  is : slice_get p.classes c ≡ Some class
  above : class_place p class.superclass ≡ Some u

above_class : (p : Program) (c u : ℕ) → super_place p c ≡ Some u → Above p c u
above_class p c u e = by (slice_get p.classes c) refl e
  where
    by : (o : Option Class) → slice_get p.classes c ≡ o → option_and_then (λ (k : Class). class_place p k.superclass) o ≡ Some u → Above p c u
    by None i h = none_some u h
    by (Some k) i h = record { class = k; is = i; above = h }

pub super_short : (p : Program) (c u : ℕ) → super_place p c ≡ Some u → u < length p.classes
super_short p c u e = let x = above_class p c u e in place_short p x.class.superclass u x.above

-- an interface stands on no class that is none
stands : (p : Program) → interfaces_stand_free p ≡ true → (c : ℕ) (k : Class) → slice_get p.classes c ≡ Some k → stands_free p k ≡ true
unfolding interfaces_stand_free
stands p h c k e = all_at (stands_free p) p.classes c k h e

pub super_interface : (p : Program) → is_well_formed p ≡ true → (c u : ℕ) → is_interface (slice_get p.classes c) ≡ true → super_place p c ≡ Some u → is_interface (slice_get p.classes u) ≡ true
super_interface p w c u i e =
    let x = above_class p c u e in
    let y = placed_class p x.class.superclass u x.above in
    let flag : has_flag x.class.flags 512 ≡ true = ap is_interface (sym x.is) ∙ i in
    let free : (not (defines_plain p x.class.superclass) && list_all (λ kind. not (defines_plain p kind)) x.class.interfaces) ≡ true =
    ap (λ b. not b || (not (defines_plain p x.class.superclass) && list_all (λ kind. not (defines_plain p kind)) x.class.interfaces)) (sym flag) ∙ stands p (formed p w).stands c x.class x.is in
    let none : defines_plain p x.class.superclass ≡ false = not_true (defines_plain p x.class.superclass) (and_left (not (defines_plain p x.class.superclass)) (list_all (λ kind. not (defines_plain p kind)) x.class.interfaces) free) in
    by y.class x.class.superclass y.is y.named none (has_flag y.class.flags 512) refl
  where
    by : (k : Class) (kind : ℕ) → slice_get p.classes u ≡ Some k → nat_eq k.name kind ≡ true → defines_plain p kind ≡ false → (b : Bool) → has_flag k.flags 512 ≡ b → is_interface (slice_get p.classes u) ≡ true
    by k kind is named none true f = ap is_interface is ∙ f
    by k kind is named none false f = clash (defines_plain p kind) (any_at (defines_so kind) p.classes u k is (and_both (nat_eq k.name kind) (is_plain_class k) named (ap not f))) none
