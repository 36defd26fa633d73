-- Texts as lists of lists.
use Rattle.std.proofs.Common.{◌≡◌, ℕ, zero, suc, List, [], ◌∷◌, ◌++◌, Vec, Some, None, refl, sym, ap}
use Rattle.std.specs.Prelude.{slice_get, slice_index_or}
use Rattle.std.specs.declared.alloc.Global.{Global}
use Rattle.std.proofs.lemmas.List.{map_push}
use Rattle.if_rules.specs.Lists.{lists_of}

pub lists_more : {T : Type 0} (vs : List (Vec T Global)) (v : Vec T Global) → lists_of (vs ++ v ∷ []) ≡ lists_of vs ++ v.items ∷ []
lists_more vs v = map_push (λ v. v.items) vs v

same_some : {X : Type 0} (x y : X) → Some x ≡ Some y → x ≡ y
same_some x y e = cc

-- the text at a place
pub text_there : {T : Type 0} (vs : List (Vec T Global)) (place : ℕ) (v : Vec T Global) → slice_get vs place ≡ Some v → v.items ≡ slice_index_or (lists_of vs) place []
text_there [] place v is = cc
text_there (x ∷ vs) zero v is = ap (λ y. y.items) (sym (same_some x v is))
text_there (x ∷ vs) (suc place) v is = text_there vs place v is

pub text_past : {T : Type 0} (vs : List (Vec T Global)) (place : ℕ) → slice_get vs place ≡ None → [] ≡ slice_index_or (lists_of vs) place []
text_past [] place is = refl
text_past (x ∷ vs) zero is = cc
text_past (x ∷ vs) (suc place) is = text_past vs place is
