-- The kinds with which the code of a method begins.
use Rattle.std.proofs.Common.{◌≡◌, ℕ, ◌-◌, List, [], ◌∷◌, set, replicate, length, Option, Some, None, refl, ◌∙◌}
use Rattle.std.proofs.Math.ListN.{length-set}
use Rattle.std.proofs.lemmas.List.{length-replicate}
use Rattle.program_model.specs.declared.body.Body.{Body}
use Rattle.verify.specs.declared.kinds.Kind.{Kind}
use Rattle.verify.specs.declared.kinds.Kind.TheVariants as kind
use Rattle.verify.specs.declared.setting.Setting.{Setting}
use Rattle.verify.specs.declared.tables.Tables.{Tables}
use Rattle.verify.specs.Entry.{put_parameter, behind_parameter, begun_from, begun_with, begun}
use Rattle.verify.specs.Flow.{next_of}
use Rattle.verify.specs.Types.{kind_of}

put_long : (k : Kind) (at : ℕ) (ks : List Kind) → length (put_parameter k at ks) ≡ length ks
put_long kind.WideLow at ks = length-set (set ks at kind.WideLow) (next_of at) kind.WideHigh ∙ length-set ks at kind.WideLow
put_long kind.WideHigh at ks = length-set ks at kind.WideHigh
put_long kind.Undefined at ks = length-set ks at kind.Undefined
put_long kind.Word at ks = length-set ks at kind.Word
put_long kind.Zero at ks = length-set ks at kind.Zero
put_long (kind.Fresh c p) at ks = length-set ks at (kind.Fresh c p)
put_long kind.FreshThis at ks = length-set ks at kind.FreshThis
put_long kind.Null at ks = length-set ks at kind.Null
put_long (kind.Program c) at ks = length-set ks at (kind.Program c)
put_long (kind.Array n i) at ks = length-set ks at (kind.Array n i)
put_long kind.Reference at ks = length-set ks at kind.Reference

from_long : (t : Tables) (kinds : List ℕ) (at : ℕ) (ks : List Kind) → length (begun_from t kinds at ks) ≡ length ks
from_long t [] at ks = refl
from_long t (k ∷ rest) at ks = from_long t rest (behind_parameter (kind_of t k) at) (put_parameter (kind_of t k) at ks) ∙ put_long (kind_of t k) at ks

with_long : (t : Tables) (r : Option Kind) (kinds : List ℕ) (at : ℕ) (ks : List Kind) → length (begun_with t r kinds at ks) ≡ length ks
with_long t None kinds at ks = from_long t kinds at ks
with_long t (Some k) kinds at ks = from_long t kinds (next_of at) (set ks at k) ∙ length-set ks at k

pub begun_long : (s : Setting) (b : Body) (r : Option Kind) (kinds : List ℕ) → length (begun s b r kinds).registers ≡ b.registers
begun_long s b r kinds = with_long s.tables.now r kinds (b.registers - b.ins) (replicate b.registers kind.Undefined) ∙ length-replicate b.registers kind.Undefined
