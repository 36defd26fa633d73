-- Links in order, each once.
use Rattle.std.proofs.Common.{◌≡◌, ◌∙◌, ℕ, Bool, true, nat_eq, ap}
use Rattle.std.specs.Prelude.{◌&&◌}
use Rattle.std.specs.Cmp.{IsEquivalence}
use Rattle.std.proofs.lemmas.Cmp.{and_equiv, on_equiv, nat_eq_equiv}
use Rattle.class_defs.proofs.Positions.{number_of}
use Rattle.class_defs.proofs.WellFormed.{and_left, and_right}
use Rattle.call_targets.specs.declared.table.Link.{Link}

-- the derived `==`
abbrev pub link_eq : Link → Link → Bool
link_eq a b = nat_eq a.call b.call && nat_eq a.method b.method

pub link_equiv : IsEquivalence link_eq
link_equiv = and_equiv (on_equiv (λ (l : Link). l.call) nat_eq_equiv) (on_equiv (λ (l : Link). l.method) nat_eq_equiv)

pub link_same : (a b : Link) → link_eq a b ≡ true → a ≡ b
link_same a b h =
    let f : ℕ → ℕ → Link = λ x y. record { call = x; method = y } in
    ap (λ z. f z a.method) (number_of a.call b.call (and_left (nat_eq a.call b.call) (nat_eq a.method b.method) h)) ∙ ap (λ z. f b.call z) (number_of a.method b.method (and_right (nat_eq a.call b.call) (nat_eq a.method b.method) h))
