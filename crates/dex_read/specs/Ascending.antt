-- Lists of members whose numbers ascend.
use Rattle.std.specs.Prelude.{◌≡◌, ◌<◌, ◌⊎◌, ℕ, suc, List, [], ◌∷◌}
use Rattle.dex_read.specs.declared.class_data.Listed.{Listed}
use Rattle.dex_read.specs.declared.class_data.Members.{Members}

-- the entries from this place of a list on, behind one with this number
abbrev pub Rises : ℕ → ℕ → List Listed → Type 0
Rises place before [] = Unit {0}
Rises place before (e ∷ es) = ((place ≡ 0) ⊎ (before < e.number)) × Rises (suc place) e.number es

pub record Ascends (entries : List Listed) : Type 0 where
  pub rises : Rises 0 0 entries

pub record AllAscend (m : Members) : Type 0 where
  pub statics : Ascends m.statics
  pub instances : Ascends m.instances
  pub directs : Ascends m.directs
  pub virtuals : Ascends m.virtuals
