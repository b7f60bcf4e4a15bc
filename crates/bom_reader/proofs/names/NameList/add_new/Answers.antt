use Rattle.std.proofs.Common.{◌≡◌, ◌<◌, ◌-◌, ◌^◌, ◌++◌, ◌∷◌, [], List, None, String, Global, length, map, sym, ap, ◌∙◌, arith}
use Rattle.std.proofs.lemmas.List.{length-map}
use Rattle.std.specs.String.{string_bytes}
use Rattle.bom_reader.specs.Names.{number_of}
use Rattle.bom_reader.proofs.NameFacts.{number_of-new, numbered-more, texts-pushed, with_name-new}
use Rattle.bom_reader.proofs.names.NameList.add_new.Goals as goal

pub invariant_of-self-2 : goal.invariant_of-self-2
invariant_of-self-2 c =
    let items = c.self.inside.names.items in
    let names = map string_bytes items in
    let key = c.in_ok-key.key in
    let is : string_bytes key ≡ c.args.name.now = c.in_ok-key.ensures.ok in
    let added = texts-pushed items c.push.new.self.items c.in_ok-text.text (string_bytes key) (c.in_ok-push.ensures.items ∙ ap (λ (l : List (String Global)). l ++ c.in_ok-text.text ∷ []) c.in_ok-reserve.ensures.items) (c.in_ok-text.ensures.ok ∙ sym is) in
    let new : number_of names (string_bytes key) ≡ None = rw (is, c.self.view_is) c.requires in
    let count : c.len-n.result ≡ length names = c.len-n.ensures ∙ (c.self.inside.names.ok.0 ∙ sym (length-map items string_bytes)) in
    let small : length names < 2 ^ 32 - 1 = omega (arith, c.if-n.false, count) in
    rw added (numbered-more names key c.self.inside.numbers c.insert.new.self c.self.invariant new small (rw count at c.in_ok-insert.ensures.updates))

pub returns-clause-names : goal.returns-clause-names
returns-clause-names c =
    let items = c.self.inside.names.items in
    texts-pushed items c.push.new.self.items c.in_ok-text.text c.args.name.now (c.in_ok-push.ensures.items ∙ ap (λ (l : List (String Global)). l ++ c.in_ok-text.text ∷ []) c.in_ok-reserve.ensures.items) c.in_ok-text.ensures.ok
    ∙ rw c.self.view_is (sym (with_name-new c.args.self.now c.args.name.now c.requires))

pub returns-clause-number : goal.returns-clause-number
returns-clause-number c =
    let items = c.self.inside.names.items in
    let count : c.len-n.result ≡ length c.args.self.now = c.len-n.ensures ∙ (c.self.inside.names.ok.0 ∙ (sym (length-map items string_bytes) ∙ ap length c.self.view_is)) in
    rw (returns-clause-names c, count) (number_of-new c.args.self.now c.args.name.now c.requires)
