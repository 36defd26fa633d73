-- What a form does that stays in its frame: fields hold what they held, and what throws may throw.
use Rattle.std.proofs.Common.{◌≡◌, ℕ, ℤ, pos, negsuc, Bool, true, false, List, Option, Some, None, refl, sym, ◌∙◌}
use Rattle.std.specs.Prelude.{◌||◌, nat_lt, length, map}
use Rattle.std.specs.Int.{w32, cast_unsigned}
use Rattle.insn_set.specs.declared.ops.Item.{Item}
use Rattle.dalvik_defs.specs.Items.{fill}
use Rattle.dalvik_defs.specs.Names.{Text, item_of}
use Rattle.dalvik_defs.specs.Known.{null_pointer, bad_cast, out_of_bounds}
use Rattle.dalvik_defs.specs.Arith.{signed, passes, literal_answer, answer}
use Rattle.dalvik_defs.specs.Operators.{Number, OneWord, OneWide, unary_answer, Sort, OnWord, OnWide, Shifts, OnFloat, OnDouble, sort_of}
use Rattle.dalvik_defs.specs.State.{World, Thing, Instance, Items, is_null, thing_at, put_thing}
use Rattle.dalvik_defs.specs.declared.state.Value.{Value}
use Rattle.dalvik_defs.specs.declared.state.Value.TheVariants.{Word}
use Rattle.dalvik_defs.specs.declared.state.Frame.{Frame}
use Rattle.dalvik_defs.specs.Effect.{Effect, Goes, Faults, Throws, Stuck, register, unless_null, next}
use Rattle.dalvik_defs.specs.ActPlain.{is_instance, branch, goes_to, switch_target, packed_target}
use Rattle.dalvik_defs.specs.ActArray.{measures, zeros as zero_items, new_array, fills, item_at, may_store, writes_item, put_item, reads_item, array_get, array_put}
use Rattle.dalvik_defs.specs.ActNumber.{number, word, gives_word, gives_wide, sets_number, binary}
use Rattle.dalvik_defs.specs.Act.{act}
use Rattle.dalvik_defs.specs.declared.forms.Form.{Form}
use Rattle.dalvik_defs.specs.declared.forms.Form.TheVariants as form
use Rattle.dalvik_defs.specs.declared.tables.Floats.{Floats}
use Rattle.pass_defs.specs.Bare.{may_throw}
use Rattle.run_laws.proofs.Forms.{sort_divides, sort_throws, divides_op, literal_divides}
use Rattle.cover_law.proofs.Worlds.{SameFields, same_world, same_with, same_put}

-- what stays in its frame: no call, no field, no monitor, no class and no end
abbrev pub IsLocal : Form → Type 0
IsLocal form.ReturnVoid = ⊥
IsLocal (form.Return slot from) = ⊥
IsLocal (form.MonitorEnter on) = ⊥
IsLocal (form.MonitorExit on) = ⊥
IsLocal (form.NewInstance to kind) = ⊥
IsLocal (form.InstanceGet item to on field) = ⊥
IsLocal (form.InstancePut item from on field) = ⊥
IsLocal (form.StaticGet item to field) = ⊥
IsLocal (form.StaticPut item from field) = ⊥
IsLocal (form.Invoke kind method args) = ⊥
IsLocal x = Unit {0}

module _ (w : World) (f : Frame) where
  -- by whether a form may throw
  abbrev pub Fits : Bool → Effect → Type 0
  Fits b (Goes w1 f1) = SameFields w w1
  Fits b (Faults t) = b ≡ true
  Fits b (Throws v) = b ≡ true
  Fits b Stuck = Unit {0}
  Fits b e = ⊥

  goes_fit : (b : Bool) (o : Option ℕ) → Fits b (goes_to o w f)
  goes_fit b None = same_world w
  goes_fit b (Some q) = same_world w

  branch_fits : (b c : Bool) (q : ℕ) → Fits b (branch c w f q)
  branch_fits b true q = same_world w
  branch_fits b false q = same_world w

  held : (v : Value) (e : Effect) → Fits true e → Fits true (unless_null v e)
  held v e h = by (is_null v)
    where
      by : (b : Bool) → Fits true (elim b as (λ b. Effect) [ true ↦ Faults null_pointer | false ↦ e ])
      by true = refl
      by false = h

  if_both : (b c : Bool) (x y : Effect) → Fits b x → Fits b y → Fits b (elim c as (λ c. Effect) [ true ↦ x | false ↦ y ])
  if_both b true x y g h = g
  if_both b false x y g h = h

  measures_fit : (o : Option Thing) (to : ℕ) → Fits true (measures o w f to)
  measures_fit None to = tt
  measures_fit (Some (Instance c fs)) to = tt
  measures_fit (Some (Items k vs)) to = same_world w

  array_fits : (z : ℤ) (k : Text) (to : ℕ) → Fits true (new_array z k w f to)
  array_fits (pos n) k to = same_with w (zero_items (item_of k) n) tt
  array_fits (negsuc n) k to = refl

  fills_fit : (o : Option Thing) (on : Value) (ns : List ℕ) → thing_at w on ≡ o → Fits true (fills o w f on ns)
  fills_fit None on ns e = tt
  fills_fit (Some (Instance c fs)) on ns e = tt
  fills_fit (Some (Items k vs)) on ns e = if_both true (nat_lt (length vs) (length ns)) (Faults out_of_bounds) (Goes (put_thing w on (Items k (fill k ns vs))) (next f)) refl (same_put w on (Items k vs) (Items k (fill k ns vs)) e refl tt)

  item_fits : (i : Item) (o : Option Value) (to : ℕ) → Fits true (reads_item i o w f to)
  item_fits i None to = refl
  item_fits i (Some v) to = same_world w

  get_fits : (i : Item) (o : Option Thing) (to : ℕ) (at : ℤ) → Fits true (array_get i o w f to at)
  get_fits i None to at = tt
  get_fits i (Some (Instance c fs)) to at = tt
  get_fits i (Some (Items k vs)) to at = item_fits i (item_at vs at) to

  put_fits : (under : Text → Text → Bool) (i : Item) (o : Option Thing) (v on : Value) (at : ℤ) → thing_at w on ≡ o → Fits true (array_put under i o w f v on at)
  put_fits under i None v on at e = tt
  put_fits under i (Some (Instance c fs)) v on at e = tt
  put_fits under i (Some (Items k vs)) v on at e = by at (item_at vs at)
    where
      placed : (at : ℤ) → SameFields w (put_thing w on (put_item i k vs at v))
      placed (pos n) = same_put w on (Items k vs) (put_item i k vs (pos n) v) e refl tt
      placed (negsuc n) = same_put w on (Items k vs) (put_item i k vs (negsuc n) v) e refl tt

      stores : (b : Bool) (at : ℤ) → Fits true (writes_item b w f on (put_item i k vs at v))
      stores true at = placed at
      stores false at = refl

      by : (at : ℤ) (z : Option Value) → Fits true (elim z as (λ z. Effect) [ Some old ↦ writes_item (may_store under w i v k) w f on (put_item i k vs at v) | None ↦ Faults out_of_bounds ])
      by at None = refl
      by at (Some old) = stores (may_store under w i v k) at

  number_fits : (b : Bool) (n : Number) (to : ℕ) → Fits b (sets_number n w f to)
  number_fits b (OneWord n) to = same_world w
  number_fits b (OneWide n) to = same_world w

  word_fits : (b : Bool) (o : Option ℕ) (to : ℕ) → (o ≡ None → b ≡ true) → Fits b (gives_word o w f to)
  word_fits b None to h = h refl
  word_fits b (Some n) to h = same_world w

  wide_fits : (b : Bool) (o : Option ℕ) (to : ℕ) → (o ≡ None → b ≡ true) → Fits b (gives_wide o w f to)
  wide_fits b None to h = h refl
  wide_fits b (Some n) to h = same_world w

  sort_fits : (floats : Floats) (c : Bool) (s : Sort) (to r q : ℕ) → (sort_divides s ≡ true → c ≡ true) → Fits c (binary floats s w f to r q)
  sort_fits floats c (OnWord k) to r q h = word_fits c (answer k false (word f r) (word f q)) to (λ e. h (divides_op k false (word f r) (word f q) e))
  sort_fits floats c (OnWide k) to r q h = wide_fits c (answer k true (number f r) (number f q)) to (λ e. h (divides_op k true (number f r) (number f q) e))
  sort_fits floats c (Shifts k) to r q h = wide_fits c (answer k true (number f r) (number f q)) to (λ e. h (divides_op k true (number f r) (number f q) e))
  sort_fits floats c (OnFloat op) to r q h = same_world w
  sort_fits floats c (OnDouble op) to r q h = same_world w

  pub act_fits : (under : Text → Text → Bool) (floats : Floats) (y : Form) → IsLocal y → Fits (may_throw y) (act under floats y w f)
  act_fits under floats form.ReturnVoid l = absurd l
  act_fits under floats (form.Return slot from) l = absurd l
  act_fits under floats (form.MonitorEnter on) l = absurd l
  act_fits under floats (form.MonitorExit on) l = absurd l
  act_fits under floats (form.NewInstance to kind) l = absurd l
  act_fits under floats (form.InstanceGet item to on field) l = absurd l
  act_fits under floats (form.InstancePut item from on field) l = absurd l
  act_fits under floats (form.StaticGet item to field) l = absurd l
  act_fits under floats (form.StaticPut item from field) l = absurd l
  act_fits under floats (form.Invoke kind method args) l = absurd l
  act_fits under floats (form.CheckCast on kind) l = if_both true (is_null (register f on) || is_instance under w (register f on) kind) (Goes w (next f)) (Faults bad_cast) (same_world w) refl
  act_fits under floats (form.ArrayLength to from) l = held (register f from) (measures (thing_at w (register f from)) w f to) (measures_fit (thing_at w (register f from)) to)
  act_fits under floats (form.NewArray to size kind) l = array_fits (signed false (number f size)) kind to
  act_fits under floats (form.FilledNewArray kind args) l = same_with w (Items (item_of kind) (map (register f) args)) tt
  act_fits under floats (form.FillArray on width items) l = held (register f on) (fills (thing_at w (register f on)) w f (register f on) items) (fills_fit (thing_at w (register f on)) (register f on) items refl)
  act_fits under floats (form.Throw on) l = held (register f on) (Throws (register f on)) refl
  act_fits under floats (form.PackedSwitch on first targets) l = goes_fit false (packed_target (number f on) first targets)
  act_fits under floats (form.SparseSwitch on keys targets) l = goes_fit false (switch_target (signed false (number f on)) keys targets)
  act_fits under floats (form.If test r s target) l = branch_fits false (passes test (register f r) (register f s)) target
  act_fits under floats (form.IfZero test r target) l = branch_fits false (passes test (register f r) (Word 0)) target
  act_fits under floats (form.ArrayGet item to array index) l = held (register f array) (array_get item (thing_at w (register f array)) w f to (signed false (number f index))) (get_fits item (thing_at w (register f array)) to (signed false (number f index)))
  act_fits under floats (form.ArrayPut item from array index) l = held (register f array) (array_put under item (thing_at w (register f array)) w f (register f from) (register f array) (signed false (number f index)))
      (put_fits under item (thing_at w (register f array)) (register f from) (register f array) (signed false (number f index)) refl)
  act_fits under floats (form.Unary op to from) l = number_fits false (unary_answer floats op (number f from)) to
  act_fits under floats (form.Binary op to r s) l = sort_fits floats (may_throw (form.Binary op to r s)) (sort_of op) to r s (λ e. sym (sort_throws op) ∙ e)
  act_fits under floats (form.Literal op to r value) l = word_fits (may_throw (form.Literal op to r value)) (literal_answer op (word f r) (cast_unsigned w32 value)) to (λ e. literal_divides op (word f r) (cast_unsigned w32 value) e)
  act_fits under floats y l = same_world w
