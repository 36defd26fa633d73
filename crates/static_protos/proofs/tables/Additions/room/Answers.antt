use Rattle.std.proofs.Common.{◌≡◌, ◌∙◌, ◌∷◌, ℕ, ap, nat_eq, sym}
use Rattle.std.specs.Prelude.{position, Vec}
use Rattle.std.specs.Cmp.Lexicographic.{pointwise}
use Rattle.std.specs.declared.alloc.Global.{Global}
use Rattle.static_protos.proofs.Grown.{text_room, proto_room}
use Rattle.static_protos.proofs.tables.Additions.room.Goals as goal

pub returns : goal.returns
returns c = λ p t g.
    let a = c.args.self.now in
    let w = c.args.wanted.now in (
      c.get_index_of-text.ensures.index ∙ (ap (λ x. position (λ (v : Vec ℕ Global). pointwise nat_eq x v.items) a.texts.keys) c.as_slice-2.ensures ∙ text_room p t a g w),
      c.get_index_of-proto.ensures.index
          ∙ (ap (λ x. position (λ (v : Vec ℕ Global). pointwise nat_eq x v.items) a.keys.keys) (c.as_slice-3.ensures.value ∙ (c.in_ok-key.ensures ∙ ap (λ xs. w.result ∷ xs) c.as_slice.ensures)) ∙ proto_room p t a g w),
    )
