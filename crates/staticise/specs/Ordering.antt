-- The order of the methods of a class, and what method numbers resolve to.
use Rattle.std.specs.Prelude.{◌≡◌, ◌<◌, ◌≤◌, ◌^◌, ◌+◌, ℕ, true, nat_eq, All, count_by, if◌then◌else◌, length, List, Option, None, slice_index_or}
use Rattle.std.specs.List.{list_all}
use Rattle.program_model.specs.declared.program.Method.{Method}
use Rattle.program_model.specs.declared.program.Program.{Program}
use Rattle.program_model.specs.MemberRules.{is_direct, methods_in_order}
use Rattle.program_model.specs.Neighbours.{neighbours}
use Rattle.staticise.specs.Loosened.{target_of}

-- for each method number the method made static that it resolves to
pub record AreTargets (p : Program) (given targets : List (Option ℕ)) : Type 0 where
  pub are : (n : ℕ) → slice_index_or targets n None ≡ target_of p given n

-- direct methods first, and each group by number
pub record IsOrdered (p : Program) (ms : List Method) : Type 0 where
  pub is : list_all (methods_in_order p) (neighbours ms) ≡ true

-- where a method stands
abbrev pub order_of : Program → Method → ℕ
order_of p m = (if is_direct p m then 0 else 4294967296) + m.name

-- no number stands twice, and numbers have 32 bits
pub record AreOwn (ms : List Method) : Type 0 where
  pub once : (n : ℕ) → count_by (λ m. nat_eq m.name n) ms ≤ 1
  pub short : All (λ m. m.name < 2 ^ 32) ms

-- the same of so many method numbers
pub record TargetsTo (p : Program) (given : List (Option ℕ)) (done : ℕ) (targets : List (Option ℕ)) : Type 0 where
  pub long : length targets ≡ done
  pub are : (n : ℕ) → n < done → slice_index_or targets n None ≡ target_of p given n
