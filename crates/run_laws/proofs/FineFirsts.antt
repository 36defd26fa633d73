-- First values of fields refer to no object.
use Rattle.std.proofs.Common.{true, false, Option, Some, None, sym, subst}
use Rattle.dalvik_defs.specs.Face.{Place}
use Rattle.dalvik_defs.specs.Fields.{first_layer, first_value, first_of}
use Rattle.dalvik_defs.specs.State.{World, zero_of}
use Rattle.dalvik_defs.specs.declared.state.Value.{Value}
use Rattle.dalvik_defs.specs.declared.state.Value.TheVariants.{Word}
use Rattle.dalvik_defs.specs.declared.names.FieldKey.{FieldKey}
use Rattle.dalvik_defs.specs.declared.encoded.NamedValue.{NamedValue, NamedValue-F, fold-roll-NamedValue}
use Rattle.dalvik_defs.specs.declared.encoded.NamedValue.TheFolds.{ind-NamedValue}
use Rattle.dalvik_defs.specs.declared.encoded.NamedValue.TheOpen as layer
use Rattle.run_laws.specs.Fine.{IsThere}
use Rattle.run_laws.proofs.Fine.{zero_there}

layer_there : (w : World) (x : NamedValue-F Value Value Value) → IsThere w (first_layer x)
layer_there w (layer.Bool true) = tt
layer_there w (layer.Bool false) = tt
layer_there w x = tt

value_there : (w : World) (v : NamedValue) → IsThere w (first_value v)
value_there w = ind-NamedValue (λ v. IsThere w (first_value v)) (λ e. Unit {0}) (λ n. Unit {0})
    (λ x y is. subst (IsThere w) (sym (fold-roll-NamedValue Value Value Value first_layer (λ e. Word 0) (λ n. Word 0) x)) (layer_there w _))
    (λ x y is. tt) (λ x y is. tt)

pub firsts_there : (w : World) (k : FieldKey) (place : Place) → IsThere w (first_of k place)
firsts_there w k place = by place.first
  where
    by : (o : Option NamedValue) → IsThere w (elim o as (λ o. Value) [ Some v ↦ first_value v | None ↦ zero_of k.kind ])
    by (Some v) = value_there w v
    by None = zero_there w k.kind
