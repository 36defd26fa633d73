-- Which types a name is tried on.
use Rattle.std.specs.Prelude.{◌≡◌, ◌<◌, ℕ, true, if◌then◌else◌, List, [], ◌∷◌, ◌++◌, map, length, nat_eq, All}
use Rattle.program_model.specs.declared.program.Program.{Program}
use Rattle.dalvik_defs.specs.Naming.{type_at}
use Rattle.rule_text.specs.Tokens.{Word}
use Rattle.rule_defs.specs.Patterns.{class_name_fits, some_name_fits}
use Rattle.keep_rules.specs.Table.{has}
use Rattle.keep_rules.specs.declared.names.Candidates.{Candidates}
use Rattle.keep_rules.specs.declared.names.Candidates.TheVariants as candidates

-- a unit of a class's name as a descriptor has it
abbrev pub slashed : ℕ → ℕ
slashed u = if nat_eq u 46 then 47 else u

-- the descriptor of the class with a name
abbrev pub class_descriptor : List ℕ → List ℕ
class_descriptor name = 76 ∷ (map slashed name ++ 59 ∷ [])

-- the type that has a descriptor
abbrev pub HasDescriptor : Program → List ℕ → Candidates → Type 0
HasDescriptor p t candidates.None = (k : ℕ) → k < length p.types → type_at p k ≡ t → ⊥
HasDescriptor p t (candidates.Type n) = (n < length p.types) × (type_at p n ≡ t)
HasDescriptor p t candidates.All = ⊥

-- the types that a name may match are among these
abbrev pub AreCandidates : Program → Word → Candidates → Type 0
AreCandidates p w candidates.None = (k : ℕ) → k < length p.types → class_name_fits w (type_at p k) ≡ true → ⊥
AreCandidates p w (candidates.Type n) = (n < length p.types) × ((k : ℕ) → k < length p.types → class_name_fits w (type_at p k) ≡ true → k ≡ n)
AreCandidates p w candidates.All = Unit {0}

-- each type that some name matches is one of these, which are types of the program
pub record FitAmong (p : Program) (ws : List Word) (kinds : List ℕ) : Type 0 where
  pub below : All (λ k. k < length p.types) kinds
  pub among : (k : ℕ) → k < length p.types → some_name_fits ws (type_at p k) ≡ true → has kinds k ≡ true
