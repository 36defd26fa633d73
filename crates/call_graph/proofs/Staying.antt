-- Lists of facts that only grow.
use Rattle.std.proofs.Common.{◌≡◌, List, ◌++◌, sym, subst}
use Rattle.std.specs.Prelude.{Contains}
use Rattle.std.proofs.lemmas.List.Elements.{Contains-append_left, Contains-append_right}
use Rattle.call_graph.specs.declared.facts.Fact.{Fact}
use Rattle.call_graph.specs.Stays.{Stays}

pub stays_same : (xs : List Fact) → Stays xs xs
stays_same xs = record { has = λ x c. c }

pub stays_then : (xs ys zs : List Fact) → Stays xs ys → Stays ys zs → Stays xs zs
stays_then xs ys zs f g = record { has = λ x c. g.has x (f.has x c) }

pub stays_more : (xs ys more : List Fact) → ys ≡ xs ++ more → Stays xs ys
stays_more xs ys more e = record { has = λ x c. subst (λ l. Contains l x) (sym e) (Contains-append_left xs more x c) }

pub stays_behind : (xs ys zs : List Fact) → Stays (xs ++ ys) zs → Stays ys zs
stays_behind xs ys zs f = record { has = λ x c. f.has x (Contains-append_right xs ys x c) }

pub stays_end : (xs ys zs : List Fact) → zs ≡ xs ++ ys → Stays ys zs
stays_end xs ys zs e = record { has = λ x c. subst (λ l. Contains l x) (sym e) (Contains-append_right xs ys x c) }
