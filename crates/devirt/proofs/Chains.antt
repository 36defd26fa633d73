-- A chain of classes that is gone over one step at a time.
use Rattle.std.proofs.Common.{◌≡◌, ℕ, zero, suc, ◌+◌, ◌-◌, ◌<◌, ◌≤◌, Bool, true, false, nat_eq, Option, Some, None, refl, sym, ap, ◌∙◌, arith}
use Rattle.std.specs.Prelude.{◌||◌}
use Rattle.std.specs.List.{list_any}
use Rattle.class_defs.specs.Places.{chain_from}

module _ (up : ℕ → Option ℕ) (upper : ℕ) where
  abbrev pub Hits : ℕ → Option ℕ → Bool
  Hits n o = list_any (nat_eq upper) (chain_from up n o)

  pub hits_none : (n : ℕ) (o : Option ℕ) → o ≡ None → Hits n o ≡ false
  hits_none zero o e = refl
  hits_none (suc n) o e = ap (Hits (suc n)) e

  one_less : (n d : ℕ) → d < n → n - d ≡ suc (n - (d + 1))
  one_less n d l = omega (arith, l)

  -- one class more that isn't it
  pub hits_on : (n d one : ℕ) (o next : Option ℕ) (whole : Bool) → d < n → o ≡ Some one → nat_eq upper one ≡ false → next ≡ up one → Hits (n - d) o ≡ whole → Hits (n - (d + 1)) next ≡ whole
  hits_on n d one o next whole l e other goes h =
      ap (Hits (n - (d + 1))) goes
      ∙ (sym (ap (λ b. b || Hits (n - (d + 1)) (up one)) other)
      ∙ (sym (ap (λ k. Hits k (Some one)) (one_less n d l))
      ∙ (sym (ap (Hits (n - d)) e) ∙ h)))

  -- the one that it is
  pub hits_here : (n d one : ℕ) (o : Option ℕ) (whole : Bool) → d < n → o ≡ Some one → nat_eq upper one ≡ true → Hits (n - d) o ≡ whole → true ≡ whole
  hits_here n d one o whole l e same h =
      sym (ap (λ b. b || Hits (n - (d + 1)) (up one)) same) ∙ (sym (ap (λ k. Hits k (Some one)) (one_less n d l)) ∙ (sym (ap (Hits (n - d)) e) ∙ h))

  -- none is left
  pub hits_done : (n d : ℕ) (o : Option ℕ) (whole : Bool) → n ≤ d → Hits (n - d) o ≡ whole → false ≡ whole
  hits_done n d o whole l h = ap (λ k. Hits k o) (none_left n d l) ∙ h
    where
      none_left : (n d : ℕ) → n ≤ d → 0 ≡ n - d
      none_left n d l = omega (arith, l)
