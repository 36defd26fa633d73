-- Steps up a chain, one at a time.
use Rattle.std.proofs.Common.{◌≡◌, ℕ, suc, ◌<◌, false, nat_eq, nat_le, Option, Some, refl, sym, ◌∙◌, arith}
use Rattle.std.proofs.lemmas.Bool.{lt-leb, ne_eqb}
use Rattle.verify.specs.declared.chains.Chains.{Chains}
use Rattle.verify.specs.Chains.{depth, step, lifted, stepped_both, meets}

-- where the depth isn't reached, one step is taken
pub lift_on : (s : Chains) (m j k d k' x r : ℕ) → m ≡ suc j → x ≡ depth s k → d < x → k' ≡ step s k d → lifted m s k d ≡ r → lifted j s k' d ≡ r
lift_on s m j k d k' x r e q lt f inv =
    let lt' : d < depth s k = omega (arith, q, lt) in
    let b : nat_le (depth s k) d ≡ false = lt-leb (depth s k) d lt' in
    let i : lifted (suc j) s k d ≡ r = rw e at inv in
    let i' : lifted j s (step s k d) d ≡ r = rw b at i in
    rw f i'

-- where two classes differ, one step is taken
pub meet_on : (s : Chains) (m j a b a' b' : ℕ) (r : Option ℕ) → m ≡ suc j → (a ≡ b → ⊥) → stepped_both s a b ≡ Some (a', b') → meets m s a b ≡ r → meets j s a' b' ≡ r
meet_on s m j a b a' b' r e n q inv =
    let i : meets (suc j) s a b ≡ r = rw e at inv in
    let u : nat_eq a b ≡ false = ne_eqb a b n in
    let i' : meets (suc j) s a b ≡ meets j s a' b' = rw u (rw q refl) in
    sym i' ∙ i
