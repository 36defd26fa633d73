-- The code of a written program names what the code of the program names.
use Rattle.std.proofs.Common.{◌≡◌, List, [], ◌∷◌, refl, ap, ◌∙◌, map, Option}
use Rattle.std.specs.Prelude.{Some, None}
use Rattle.std.specs.Option.{option_map}
use Rattle.std.specs.List.{AllByRecursion, flat_map}
use Rattle.insn_set.specs.declared.form.Insn.{Insn}
use Rattle.insn_set.specs.declared.form.Insn.TheVariants as insn
use Rattle.dex_pools.specs.declared.interner.Interner.{Interner}
use Rattle.dex_pools.specs.declared.used.Named.{Named}
use Rattle.dex_pools.specs.Used.{insn_names, handler_names, region_names, body_names, code_names}
use Rattle.dex_pools.specs.Numbering.{used_in}
use Rattle.program_model.specs.declared.body.Handler.{Handler}
use Rattle.program_model.specs.declared.body.Region.{Region}
use Rattle.program_model.specs.declared.body.Body.{Body}
use Rattle.program_model.specs.declared.program.Program.{Program}
use Rattle.dalvik_defs.specs.Names.{Text}
use Rattle.dalvik_defs.specs.declared.forms.Form.{Form}
use Rattle.dalvik_defs.specs.declared.forms.Form.TheVariants as form
use Rattle.dalvik_defs.specs.declared.program.NamedHandler.{NamedHandler}
use Rattle.dalvik_defs.specs.declared.program.NamedRegion.{NamedRegion}
use Rattle.dalvik_defs.specs.declared.program.NamedBody.{NamedBody}
use Rattle.dalvik_defs.specs.Naming.{form_of, handler_of, region_of, body_of}
use Rattle.dex_defs.specs.Written.{new_insn, new_handler, new_region, new_body}
use Rattle.write_laws.specs.Used.{IsUsed}
use Rattle.write_laws.specs.Carried.{KeepsTexts}
use Rattle.write_laws.proofs.Marking.{all_left, all_right}

-- one by one, where it holds of each whose names are as they should be
pub each_kept : {X Y Z : Type 0} (P : Named → Type 0) (names : X → List Named) (f : X → Y) (g : Y → Z) (h : X → Z) → ((x : X) → AllByRecursion P (names x) → g (f x) ≡ h x) → (xs : List X) → AllByRecursion P (flat_map names xs) → map g (map f xs) ≡ map h xs
each_kept P names f g h one [] all = refl
each_kept P names f g h one (x ∷ xs) all =
    ap (λ z. z ∷ map g (map f xs)) (one x (all_left P (names x) (flat_map names xs) all))
    ∙ ap (λ zs. h x ∷ zs) (each_kept P names f g h one xs (all_right P (names x) (flat_map names xs) all))

-- a handler, a region and a body with these names
abbrev handler_with : Handler → Text → NamedHandler
handler_with x k = record { kind = k; position = x.position }

abbrev region_with : Region → List NamedHandler → NamedRegion
region_with x hs = record { first = x.first; end = x.end; handlers = hs; rest = x.rest }

abbrev body_with : Body → List Form → List NamedRegion → NamedBody
body_with x fs rs = record { registers = x.registers; ins = x.ins; forms = fs; regions = rs }

module _ (p : Program) (i : Interner) (q : Program) (keeps : KeepsTexts p i q) where
  abbrev AllUsed : List Named → Type 0
  AllUsed ns = AllByRecursion (IsUsed (used_in p)) ns

  pub form_kept : (x : Insn) → AllUsed (insn_names x) → form_of q (new_insn i.numbers x) ≡ form_of p x
  form_kept insn.Nop h = refl
  form_kept (insn.Move slot to from) h = refl
  form_kept (insn.MoveResult slot to) h = refl
  form_kept (insn.MoveException to) h = refl
  form_kept insn.ReturnVoid h = refl
  form_kept (insn.Return slot from) h = refl
  form_kept (insn.Const to value) h = refl
  form_kept (insn.ConstWide to value) h = refl
  form_kept (insn.ConstString to string) h = ap (form.ConstString to) (keeps.strings string h.0)
  form_kept (insn.ConstClass to kind) h = ap (form.ConstClass to) (keeps.types kind h.0)
  form_kept (insn.MonitorEnter on) h = refl
  form_kept (insn.MonitorExit on) h = refl
  form_kept (insn.CheckCast on kind) h = ap (form.CheckCast on) (keeps.types kind h.0)
  form_kept (insn.InstanceOf to from kind) h = ap (form.InstanceOf to from) (keeps.types kind h.0)
  form_kept (insn.ArrayLength to from) h = refl
  form_kept (insn.NewInstance to kind) h = ap (form.NewInstance to) (keeps.types kind h.0)
  form_kept (insn.NewArray to size kind) h = ap (form.NewArray to size) (keeps.types kind h.0)
  form_kept (insn.FilledNewArray kind args) h = ap (λ k. form.FilledNewArray k args) (keeps.types kind h.0)
  form_kept (insn.FillArray on width items) h = refl
  form_kept (insn.Throw on) h = refl
  form_kept (insn.Goto target) h = refl
  form_kept (insn.PackedSwitch on first targets) h = refl
  form_kept (insn.SparseSwitch on keys targets) h = refl
  form_kept (insn.Cmp op to a b) h = refl
  form_kept (insn.If test a b target) h = refl
  form_kept (insn.IfZero test a target) h = refl
  form_kept (insn.ArrayGet item to array index) h = refl
  form_kept (insn.ArrayPut item from array index) h = refl
  form_kept (insn.InstanceGet item to on field) h = ap (form.InstanceGet item to on) (keeps.fields field h.0)
  form_kept (insn.InstancePut item from on field) h = ap (form.InstancePut item from on) (keeps.fields field h.0)
  form_kept (insn.StaticGet item to field) h = ap (form.StaticGet item to) (keeps.fields field h.0)
  form_kept (insn.StaticPut item from field) h = ap (form.StaticPut item from) (keeps.fields field h.0)
  form_kept (insn.Invoke kind method args) h = ap (λ m. form.Invoke kind m args) (keeps.methods method h.0)
  form_kept (insn.Unary op to from) h = refl
  form_kept (insn.Binary op to a b) h = refl
  form_kept (insn.Literal op to a value) h = refl

  handler_kept : (x : Handler) → AllUsed (handler_names x) → handler_of q (new_handler i.numbers x) ≡ handler_of p x
  handler_kept x h = ap (handler_with x) (keeps.types x.kind h.0)

  region_kept : (x : Region) → AllUsed (region_names x) → region_of q (new_region i.numbers x) ≡ region_of p x
  region_kept x h = ap (region_with x) (each_kept (IsUsed (used_in p)) handler_names (new_handler i.numbers) (handler_of q) (handler_of p) handler_kept x.handlers h)

  pub body_kept : (b : Body) → AllUsed (body_names b) → body_of q (new_body i.numbers b) ≡ body_of p b
  unfolding body_names
  body_kept b h =
      ap (λ fs. body_with b fs (map (region_of q) (map (new_region i.numbers) b.regions))) (each_kept (IsUsed (used_in p)) insn_names (new_insn i.numbers) (form_of q) (form_of p) form_kept b.insns (all_left (IsUsed (used_in p)) (flat_map insn_names b.insns) (flat_map region_names b.regions) h))
      ∙ ap (body_with b (map (form_of p) b.insns)) (each_kept (IsUsed (used_in p)) region_names (new_region i.numbers) (region_of q) (region_of p) region_kept b.regions (all_right (IsUsed (used_in p)) (flat_map insn_names b.insns) (flat_map region_names b.regions) h))

  pub code_kept : (o : Option Body) → AllUsed (code_names o) → option_map (body_of q) (option_map (new_body i.numbers) o) ≡ option_map (body_of p) o
  code_kept None h = refl
  code_kept (Some b) h = ap (λ (x : NamedBody). Some x) (body_kept b h)
