-- A body whose positions moved nearer lays out.
use Rattle.std.proofs.Common.{◌≡◌, ℕ, ◌≤◌, List, [], ◌∷◌, length, None, sym, subst, arith, All}
use Rattle.std.specs.Prelude.{Contains}
use Rattle.std.proofs.lemmas.List.Elements.{All-nil, All-cons, All-contains}
use Rattle.lemmas.proofs.Lists.{contains_here, contains_there}
use Rattle.program_model.specs.declared.body.Region.{Region}
use Rattle.program_model.specs.declared.body.Body.{Body}
use Rattle.relax.specs.Far.{first_far}
use Rattle.dex_defs.specs.LaysOut.{AreSizes, IsNear, LaysOutBody}
use Rattle.layout_law.proofs.Nearer.{Shrinks, stays_near}
use Rattle.layout_law.proofs.Catches.{region_with, lists_low}

pub all_from : {A : Type 0} (P : A → Type 0) (xs : List A) → ((x : A) → Contains xs x → P x) → All P xs
all_from P [] h = All-nil P
all_from P (x ∷ xs) h = All-cons P x xs (h x (contains_here x xs)) (all_from P xs (λ y c. h y (contains_there x xs y c)))

-- each region of a body comes of one of another body's
abbrev pub RegionsMove : (ℕ → ℕ) → (ℕ → ℕ) → Body → Body → Type 0
RegionsMove at kind b d = (q : Region) → Contains d.regions q → (r : Region) × Contains b.regions r × (q ≡ region_with at kind r)

pub moved_body : (at kind : ℕ → ℕ) → ((k : ℕ) → kind k ≤ k) → (b d : Body) (l : LaysOutBody b) (ts : List ℕ) → AreSizes d ts → Shrinks at l.sizes ts → first_far ts 0 d.insns ≡ None
    → length d.regions ≤ length b.regions → RegionsMove at kind b d → LaysOutBody d
moved_body at kind lower b d l ts least s near few come = record {
  sizes = ts;
  least = least;
  branches = near;
  regions = all_from (IsNear ts) d.regions (λ q i.
      let r = come q i in
      subst (IsNear ts) (sym r.2) (stays_near at l.sizes ts s r.0.first r.0.end (All-contains (IsNear l.sizes) b.regions r.0 l.regions r.1)));
  few = omega (arith, few, l.few);
  lists = lists_low at kind l.sizes ts s lower b.regions d.regions come l.lists;
}
