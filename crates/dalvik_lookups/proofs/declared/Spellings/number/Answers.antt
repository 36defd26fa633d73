use Rattle.std.proofs.Common.{ℕ, refl, ◌≡◌, Option, Some, None, sym, ◌∙◌}
use Rattle.std.specs.Prelude.{IfSome}
use Rattle.dalvik_lookups.proofs.Declaring.{spelling_found, spelling_nowhere}
use Rattle.dalvik_lookups.proofs.declared.Spellings.number.Goals as goal

where_some : (o : Option ℕ) (P : ℕ → Type 0) → ((n : ℕ) → o ≡ Some n → P n) → IfSome o P
where_some None P h = tt
where_some (Some n) P h = h n refl

pub returns-clause-found : goal.returns-clause-found
returns-clause-found c = where_some c.get_index_of.result _ (λ n e. spelling_found c.args.self.now c.args.units.now n (sym c.get_index_of.ensures.index ∙ e))

pub returns-clause-absent : goal.returns-clause-absent
returns-clause-absent c = λ e. spelling_nowhere c.args.self.now c.args.units.now (sym c.get_index_of.ensures.index ∙ e)
