-- Class data is spelled where its text stands.
use Rattle.std.proofs.Common.{◌≡◌, ◌≤◌, ◌<◌, ◌+◌, ◌-◌, ◌^◌, ℕ, List, [], ◌∷◌, ◌++◌, length, subst, length-append, arith}
use Rattle.dex_base.specs.Leb.{uleb_text}
use Rattle.dex_defs.specs.ClassData.{Entry, Lists, IsFieldEntry, IsMethodEntry, EntriesTo, IsClassData}
use Rattle.dex_defs.specs.Here.{Here}
use Rattle.dex_defs.specs.Texts.{fields_text, methods_text, class_data_text}
use Rattle.write_laws.proofs.Here.{here_left, here_right, here_is, here_uleb}

-- numbers that do not fall, of 32 bits
abbrev pub Climbs : ℕ → List Entry → Type 0
Climbs before [] = Unit {0}
Climbs before (e ∷ es) = (before ≤ e.number) × (e.number < 2 ^ 32) × (e.flags < 2 ^ 32) × (e.code < 2 ^ 32) × Climbs e.number es

abbrev pub Codeless : List Entry → Type 0
Codeless [] = Unit {0}
Codeless (e ∷ es) = (e.code ≡ 0) × Codeless es

pub fields_stand : (bytes : List ℕ) (before at : ℕ) (es : List Entry) → Climbs before es → Codeless es → Here bytes at (fields_text before es) → EntriesTo (IsFieldEntry bytes) before at es (at + length (fields_text before es))
fields_stand bytes before at [] c n h = omega arith
fields_stand bytes before at (e ∷ es) c n h =
    let step : List ℕ = uleb_text (e.number - before) in
    let flags : List ℕ = uleb_text e.flags in
    let rest : List ℕ = fields_text e.number es in
    let mid : ℕ = at + length step in
    let next : ℕ = mid + length flags in
    let h1 : Here bytes mid (flags ++ rest) = here_right bytes at step (flags ++ rest) h in
    let h2 : Here bytes next rest = here_right bytes mid flags rest h1 in
    let low : before ≤ e.number = c.0 in
    let few : e.number < 2 ^ 32 = c.1 in
    let entry : IsFieldEntry bytes before at e next = record { step = e.number - before; mid = mid; is_step = here_uleb bytes at (e.number - before) (omega (arith, few)) (here_left bytes at step (flags ++ rest) h); flags = here_uleb bytes mid e.flags c.2 (here_left bytes mid flags rest h1); number = omega (arith, low); code = n.0 } in
    let long : next + length rest ≡ at + length (step ++ (flags ++ rest)) = omega (arith, length-append step (flags ++ rest), length-append flags rest) in
    (next, entry, subst (λ k. EntriesTo (IsFieldEntry bytes) e.number next es k) long (fields_stand bytes e.number next es c.4 n.1 h2))

pub methods_stand : (bytes : List ℕ) (before at : ℕ) (es : List Entry) → Climbs before es → Here bytes at (methods_text before es) → EntriesTo (IsMethodEntry bytes) before at es (at + length (methods_text before es))
methods_stand bytes before at [] c h = omega arith
methods_stand bytes before at (e ∷ es) c h =
    let step : List ℕ = uleb_text (e.number - before) in
    let flags : List ℕ = uleb_text e.flags in
    let code : List ℕ = uleb_text e.code in
    let rest : List ℕ = methods_text e.number es in
    let mid : ℕ = at + length step in
    let next : ℕ = mid + length flags in
    let last : ℕ = next + length code in
    let h1 : Here bytes mid (flags ++ (code ++ rest)) = here_right bytes at step (flags ++ (code ++ rest)) h in
    let h2 : Here bytes next (code ++ rest) = here_right bytes mid flags (code ++ rest) h1 in
    let h3 : Here bytes last rest = here_right bytes next code rest h2 in
    let low : before ≤ e.number = c.0 in
    let few : e.number < 2 ^ 32 = c.1 in
    let entry : IsMethodEntry bytes before at e last = record { step = e.number - before; mid = mid; next = next; is_step = here_uleb bytes at (e.number - before) (omega (arith, few)) (here_left bytes at step (flags ++ (code ++ rest)) h); flags = here_uleb bytes mid e.flags c.2 (here_left bytes mid flags (code ++ rest) h1); code = here_uleb bytes next e.code c.3 (here_left bytes next code rest h2); number = omega (arith, low) } in
    let long : last + length rest ≡ at + length (step ++ (flags ++ (code ++ rest))) = omega (arith, length-append step (flags ++ (code ++ rest)), length-append flags (code ++ rest), length-append code rest) in
    (last, entry, subst (λ k. EntriesTo (IsMethodEntry bytes) e.number last es k) long (methods_stand bytes e.number last es c.4 h3))

-- what class data has to fit
pub record FitsLists (l : Lists) : Type 0 where
  pub statics : Climbs 0 l.statics
  pub instances : Climbs 0 l.instances
  pub directs : Climbs 0 l.directs
  pub virtuals : Climbs 0 l.virtuals
  pub static_codes : Codeless l.statics
  pub instance_codes : Codeless l.instances
  pub few_statics : length l.statics < 2 ^ 32
  pub few_instances : length l.instances < 2 ^ 32
  pub few_directs : length l.directs < 2 ^ 32
  pub few_virtuals : length l.virtuals < 2 ^ 32

pub data_stands : (bytes : List ℕ) (at : ℕ) (l : Lists) → FitsLists l → Here bytes at (class_data_text l) → (stop : ℕ) × IsClassData bytes at l stop
data_stands bytes at l fit h =
    let a : List ℕ = uleb_text (length l.statics) in
    let b : List ℕ = uleb_text (length l.instances) in
    let c : List ℕ = uleb_text (length l.directs) in
    let d : List ℕ = uleb_text (length l.virtuals) in
    let s : List ℕ = fields_text 0 l.statics in
    let i : List ℕ = fields_text 0 l.instances in
    let m : List ℕ = methods_text 0 l.directs in
    let v : List ℕ = methods_text 0 l.virtuals in
    let rest : List ℕ = s ++ (i ++ (m ++ v)) in
    let counts : List ℕ = a ++ (b ++ (c ++ (d ++ []))) in
    let hc : Here bytes at counts = here_left bytes at counts rest h in
    let h1 : Here bytes (at + length a) (b ++ (c ++ (d ++ []))) = here_right bytes at a (b ++ (c ++ (d ++ []))) hc in
    let h2 : Here bytes (at + length a + length b) (c ++ (d ++ [])) = here_right bytes (at + length a) b (c ++ (d ++ [])) h1 in
    let h3 : Here bytes (at + length a + length b + length c) (d ++ []) = here_right bytes (at + length a + length b) c (d ++ []) h2 in
    let begin : ℕ = at + length a + length b + length c + length d in
    let same : at + length counts ≡ begin = omega (arith, length-append a (b ++ (c ++ (d ++ []))), length-append b (c ++ (d ++ [])), length-append c (d ++ []), length-append d []) in
    let hr : Here bytes begin rest = here_is bytes (at + length counts) begin rest same (here_right bytes at counts rest h) in
    let hi : Here bytes (begin + length s) (i ++ (m ++ v)) = here_right bytes begin s (i ++ (m ++ v)) hr in
    let hm : Here bytes (begin + length s + length i) (m ++ v) = here_right bytes (begin + length s) i (m ++ v) hi in
    let hv : Here bytes (begin + length s + length i + length m) v = here_right bytes (begin + length s + length i) m v hm in (
      begin + length s + length i + length m + length v,
      record {
        begin = begin;
        instances_at = begin + length s;
        directs_at = begin + length s + length i;
        virtuals_at = begin + length s + length i + length m;
        counts = record {
          second = at + length a;
          third = at + length a + length b;
          fourth = at + length a + length b + length c;
          statics = here_uleb bytes at (length l.statics) fit.few_statics (here_left bytes at a (b ++ (c ++ (d ++ []))) hc);
          instances = here_uleb bytes (at + length a) (length l.instances) fit.few_instances (here_left bytes (at + length a) b (c ++ (d ++ [])) h1);
          directs = here_uleb bytes (at + length a + length b) (length l.directs) fit.few_directs (here_left bytes (at + length a + length b) c (d ++ []) h2);
          virtuals = here_uleb bytes (at + length a + length b + length c) (length l.virtuals) fit.few_virtuals (here_left bytes (at + length a + length b + length c) d [] h3);
        };
        statics = fields_stand bytes 0 begin l.statics fit.statics fit.static_codes (here_left bytes begin s (i ++ (m ++ v)) hr);
        instances = fields_stand bytes 0 (begin + length s) l.instances fit.instances fit.instance_codes (here_left bytes (begin + length s) i (m ++ v) hi);
        directs = methods_stand bytes 0 (begin + length s + length i) l.directs fit.directs (here_left bytes (begin + length s + length i) m v hm);
        virtuals = methods_stand bytes 0 (begin + length s + length i + length m) l.virtuals fit.virtuals hv;
      },
    )
