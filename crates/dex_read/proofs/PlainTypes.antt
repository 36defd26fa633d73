-- What is found by the table of the types that classes define, but for interfaces.
use Rattle.std.proofs.Common.{◌≡◌, ℕ, suc, Bool, true, false, List, [], ◌∷◌, refl, sym, ap, ◌∙◌}
use Rattle.std.specs.Prelude.{◌&&◌, ◌||◌, not, cond, Result, Ok, Err}
use Rattle.std.specs.List.{list_all, list_any}
use Rattle.dex_base.specs.Reading.{Gives, FailsIf}
use Rattle.program_model.specs.InterfaceRules.{is_plain_class, defines_so, stands_free}
use Rattle.program_model.specs.declared.program.Class.{Class}
use Rattle.program_model.specs.declared.program.Program.{Program}
use Rattle.dex_read.specs.declared.fault.DexFault.{DexFault}
use Rattle.dex_read.specs.declared.fault.DexFault.TheVariants.{Root}
use Rattle.dex_read.specs.Faults.{is_free}
use Rattle.dex_read.specs.Standing.{each_stands, standing_at, is_marked, MarksPlain, stands_by}

module _ (p : Program) (marks : List Bool) (m : MarksPlain p.classes marks) where
  none_same : (kinds : List ℕ) → list_all (λ kind. not (is_marked marks kind)) kinds ≡ list_all (λ kind. not (list_any (defines_so kind) p.classes)) kinds
  none_same [] = refl
  none_same (k ∷ ks) = ap (λ b. not b && list_all (λ kind. not (is_marked marks kind)) ks) (m.each k) ∙ ap (λ b. not (list_any (defines_so k) p.classes) && b) (none_same ks)

  stands_same : (c : Class) → stands_by marks c ≡ stands_free p c
  stands_same c = ap (λ b. is_plain_class c || (not b && list_all (λ kind. not (is_marked marks kind)) c.interfaces)) (m.each c.superclass)
      ∙ ap (λ b. is_plain_class c || (not (list_any (defines_so c.superclass) p.classes) && b)) (none_same c.interfaces)

  all_same : (place : ℕ) (cs : List Class) → each_stands (stands_by marks) place cs ≡ each_stands (stands_free p) place cs
  all_same place [] = refl
  all_same place (c ∷ cs) = ap (λ b. cond b (each_stands (stands_by marks) (suc place) cs) (Err (Root place))) (stands_same c)
      ∙ ap (λ r. cond (stands_free p c) r (Err (Root place))) (all_same (suc place) cs)

same_given : (result read : Result (Unit {0}) DexFault) → result ≡ read → Gives is_free (λ u. u) result read
same_given (Ok u) read e = sym e
same_given (Err fault) read e = by (is_free fault)
  where
    by : (b : Bool) → FailsIf b fault read
    by true = tt
    by false = sym e

pub by_table : (p : Program) (marks : List Bool) (result : Result (Unit {0}) DexFault) → MarksPlain p.classes marks → result ≡ each_stands (stands_by marks) 0 p.classes → Gives is_free (λ u. u) result (standing_at p)
unfolding standing_at
by_table p marks result m e = same_given result (each_stands (stands_free p) 0 p.classes) (e ∙ all_same p marks m 0 p.classes)
