-- No interface of the program that is read has a class of it that is no interface above it.
use Rattle.std.proofs.Common.{◌≡◌, ℕ, suc, Bool, true, false, List, [], ◌∷◌, Ok, Err, refl, sym, subst}
use Rattle.std.specs.Prelude.{◌&&◌, cond}
use Rattle.std.specs.List.{list_all}
use Rattle.program_model.specs.InterfaceRules.{stands_free, interfaces_stand_free}
use Rattle.program_model.specs.declared.program.Class.{Class}
use Rattle.program_model.specs.declared.program.Program.{Program}
use Rattle.dex_read.specs.declared.fault.DexFault.TheVariants.{Root}
use Rattle.dex_read.specs.File.{program_at}
use Rattle.dex_read.specs.Standing.{each_stands, standing_at}
use Rattle.read_laws.proofs.Told.{is_read}

-- where none is refused, each passes
all_pass : (t : Class → Bool) (place : ℕ) (cs : List Class) → each_stands t place cs ≡ Ok tt → list_all t cs ≡ true
all_pass t place [] h = refl
all_pass t place (c ∷ cs) h = by (t c) (all_pass t (suc place) cs) h
  where
    by : (b : Bool) → (each_stands t (suc place) cs ≡ Ok tt → list_all t cs ≡ true) → cond b (each_stands t (suc place) cs) (Err (Root place)) ≡ Ok tt → (b && list_all t cs) ≡ true
    by true rest h = rest h
    by false rest h = absurd cc

stands_if : (p : Program) → standing_at p ≡ Ok tt → interfaces_stand_free p ≡ true
unfolding standing_at interfaces_stand_free
stands_if p h = all_pass (stands_free p) 0 p.classes h

pub all_stand_free : (bytes : List ℕ) (p : Program) → program_at bytes ≡ Ok p → interfaces_stand_free p ≡ true
all_stand_free bytes p h =
    let r = is_read bytes p h in
    subst (λ q. interfaces_stand_free q ≡ true) (sym r.is) (stands_if (record r.tables { classes = r.classes }) r.stands)
