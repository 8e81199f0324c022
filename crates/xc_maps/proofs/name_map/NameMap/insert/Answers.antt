use Rattle.std.proofs.Common.{vec_capacity, ◌++◌, ◌∷◌, [], Some, length, length-append, sym, ap, ◌∙◌, subst, arith}
use Rattle.std.specs.BTreeMap.{is_at}
use Rattle.std.specs.Map.{lookup}
use Rattle.std.specs.FinMap as map
use Rattle.std.specs.Cmp.Lexicographic.{nat_list_cmp_total}
use Rattle.std.proofs.lemmas.Map.Lookups.{exact_bytes}
use Rattle.xc_maps.specs.Keys.{name_cmp}
use Rattle.xc_maps.specs.Moved.{AreNew}
use Rattle.xc_maps.proofs.Maps.{get-lookup, inserted}
use Rattle.xc_maps.proofs.Moved.{tree_behind, tree_changed, fresh_changed, replaced_at, fresh_replaced, some_of, on_some, if_none_holds, room_kept}
use Rattle.xc_maps.proofs.name_map.NameMap.insert.Goals as goal

pub invariant_of-self : goal.invariant_of-self
invariant_of-self g c =
    let es = c.self.inside.moved.items in
    let tree = c.self.inside.entries.entries in
    let there = sym c.is_some.ensures ∙ c.if-is_some.true in
    let p = some_of c.take_out.result there c.take_out.ensures.some in
    let shorter = on_some c.take_out.result there c.take_out.ensures.shorter in
    let long = simp length-append at (ap length c.push_reserved.ensures.items) in
    record {
      fresh = subst (λ fs. AreNew name_cmp fs tree) (sym (c.push_reserved.ensures.items ∙ ap (λ fs. fs ++ (c.args.name, c.args.value) ∷ []) p.1.2))
          (fresh_replaced nat_list_cmp_total exact_bytes es tree p.1.0 c.args.name p.0 c.args.value c.self.invariant.fresh p.1.1);
      room = omega (arith, c.take_out.ensures.capacity, c.push_reserved.ensures.capacity, c.self.invariant.room);
    }

pub returns-then-is_some-clause-ok : goal.returns-then-is_some-clause-ok
returns-then-is_some-clause-ok g c =
    let es = c.self.inside.moved.items in
    let tree = c.self.inside.entries.entries in
    let p = some_of c.take_out.result (sym c.is_some.ensures ∙ c.if-is_some.true) c.take_out.ensures.some in
    let items = c.push_reserved.ensures.items ∙ ap (λ fs. fs ++ (c.args.name, c.args.value) ∷ []) p.1.2 in
    inserted nat_list_cmp_total exact_bytes (es ++ tree) (c.push_reserved.new.self.items ++ tree)
    c.args.name c.args.value
    (λ q. ap (λ fs. lookup (is_at (name_cmp q)) (fs ++ tree)) items
    ∙ replaced_at nat_list_cmp_total exact_bytes es tree p.1.0 c.args.name p.0 c.args.value c.self.invariant.fresh p.1.1 q)
    ∙ ap (λ m. map.insert m c.args.name c.args.value) c.self.view_is

pub returns-then-not-make_room-clause-absent : goal.returns-then-not-make_room-clause-absent
returns-then-not-make_room-clause-absent g c =
    let es = c.self.inside.moved.items in
    let tree = c.self.inside.entries.entries in
    let none = if_none_holds c.take_out.result (sym c.is_some.ensures ∙ c.if-is_some.false) c.take_out.ensures.none in
    ap (λ m. map.get m c.args.name) (sym c.self.view_is)
    ∙ get-lookup nat_list_cmp_total (es ++ tree) c.args.name
    ∙ tree_behind nat_list_cmp_total exact_bytes es tree c.args.name none
    ∙ c.make_room.ensures.none c.if-not-make_room.true

pub invariant_of-self-in-Ok : goal.invariant_of-self-in-Ok
invariant_of-self-in-Ok g c =
    let es = c.self.inside.moved.items in
    let tree = c.self.inside.entries.entries in
    let gone = sym c.is_some.ensures ∙ c.if-is_some.false in
    let none = if_none_holds c.take_out.result gone c.take_out.ensures.none in
    let items = c.make_room.ensures.items ∙ if_none_holds c.take_out.result gone c.take_out.ensures.unchanged in
    record {
      fresh = subst (λ fs. AreNew name_cmp fs c.insert.new.self.entries) (sym items)
          (fresh_changed nat_list_cmp_total exact_bytes es tree c.insert.new.self.entries c.args.name (Some c.args.value)
          none c.in-Ok.ensures.updates.0 c.self.invariant.fresh);
      room =
          room_kept c.in-Ok.field-0 (length c.insert.new.self.entries) (length tree) (length c.make_room.new.moved.items)
          (vec_capacity c.make_room.new.moved) c.in-Ok.ensures.len (λ new. c.make_room.ensures.room c.if-not-make_room.false (sym c.in-Ok.ensures.old ∙ new))
          (omega (arith, ap length items, c.take_out.ensures.capacity, c.make_room.ensures.capacity, c.self.invariant.room));
    }

pub returns-in-Ok-clause-ok : goal.returns-in-Ok-clause-ok
returns-in-Ok-clause-ok g c =
    let es = c.self.inside.moved.items in
    let tree = c.self.inside.entries.entries in
    let gone = sym c.is_some.ensures ∙ c.if-is_some.false in
    let none = if_none_holds c.take_out.result gone c.take_out.ensures.none in
    let items = c.make_room.ensures.items ∙ if_none_holds c.take_out.result gone c.take_out.ensures.unchanged in
    inserted nat_list_cmp_total exact_bytes (es ++ tree) (c.make_room.new.moved.items ++ c.insert.new.self.entries)
    c.args.name c.args.value
    (λ q. ap (λ fs. lookup (is_at (name_cmp q)) (fs ++ c.insert.new.self.entries)) items
    ∙ tree_changed nat_list_cmp_total exact_bytes es tree c.insert.new.self.entries c.args.name (Some c.args.value)
    none c.in-Ok.ensures.updates.0 q)
    ∙ ap (λ m. map.insert m c.args.name c.args.value) c.self.view_is

pub returns-clause-absent : goal.returns-clause-absent
returns-clause-absent g c =
    let es = c.self.inside.moved.items in
    let tree = c.self.inside.entries.entries in
    let none = if_none_holds c.take_out.result (sym c.is_some.ensures ∙ c.if-is_some.false) c.take_out.ensures.none in
    ap (λ m. map.get m c.args.name) (sym c.self.view_is)
    ∙ get-lookup nat_list_cmp_total (es ++ tree) c.args.name
    ∙ tree_behind nat_list_cmp_total exact_bytes es tree c.args.name none
    ∙ c.in-Err.ensures.absent
