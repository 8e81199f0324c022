use Rattle.std.proofs.Common.{◌≡◌, ◌++◌, length, length-append, ap, sym, ◌∙◌, subst, arith}
use Rattle.std.specs.BTreeMap.{is_at}
use Rattle.std.specs.Map.{lookup}
use Rattle.std.specs.FinMap as map
use Rattle.std.specs.Cmp.Lexicographic.{nat_list_cmp_total}
use Rattle.std.proofs.lemmas.Map.Lookups.{exact_bytes}
use Rattle.xc_maps.specs.Keys.{name_cmp}
use Rattle.xc_maps.specs.Moved.{AreNew}
use Rattle.xc_maps.proofs.Maps.{get-lookup, inserted, removed}
use Rattle.xc_maps.proofs.Moved.{put_outside, fresh_put, none_either}
use Rattle.xc_maps.proofs.name_map.NameMap.rename.Goals as goal

pub invariant_of-self : goal.invariant_of-self
invariant_of-self g c =
    let old = sym (get-lookup nat_list_cmp_total (c.self.inside.moved.items ++ c.self.inside.entries.entries) c.args.to)
    ∙ ap (λ m. map.get m c.args.to) c.self.view_is ∙ c.requires.absent in
    let none = c.take.ensures.taken c.args.to ∙ none_either nat_list_cmp_total exact_bytes (is_at (name_cmp c.args.from) c.args.to) _ old in
    let long = simp length-append at (ap length c.push_reserved.ensures.items) in
    record {
      fresh = subst (λ es. AreNew name_cmp es c.take.new.entries.entries) (sym c.push_reserved.ensures.items)
          (fresh_put nat_list_cmp_total exact_bytes c.take.new.moved.items c.take.new.entries.entries c.args.to c.in-Some.value none c.take.ensures.fresh);
      room = omega (arith, c.take.ensures.capacity, c.push_reserved.ensures.capacity, c.self.invariant.room, c.in-Some.ensures.room);
    }

pub returns-in-Some : goal.returns-in-Some
returns-in-Some g c = λ x is.
    let old = sym (get-lookup nat_list_cmp_total (c.self.inside.moved.items ++ c.self.inside.entries.entries) c.args.to)
    ∙ ap (λ m. map.get m c.args.to) c.self.view_is ∙ c.requires.absent in
    let none = c.take.ensures.taken c.args.to ∙ none_either nat_list_cmp_total exact_bytes (is_at (name_cmp c.args.from) c.args.to) _ old in
    let some = c.in-Some.ensures.value ∙ sym (get-lookup nat_list_cmp_total (c.self.inside.moved.items ++ c.self.inside.entries.entries) c.args.from)
    ∙ ap (λ m. map.get m c.args.from) c.self.view_is ∙ is in
    let value : c.in-Some.value ≡ x = cc some in
    inserted nat_list_cmp_total exact_bytes (c.take.new.moved.items ++ c.take.new.entries.entries)
    (c.push_reserved.new.self.items ++ c.take.new.entries.entries)
    c.args.to c.in-Some.value
    (λ q. ap (λ es. lookup (is_at (name_cmp q)) (es ++ c.take.new.entries.entries)) c.push_reserved.ensures.items
    ∙ put_outside nat_list_cmp_total exact_bytes c.take.new.moved.items c.take.new.entries.entries c.args.to c.in-Some.value none q)
    ∙ ap (λ m. map.insert m c.args.to c.in-Some.value)
    (removed nat_list_cmp_total exact_bytes (c.self.inside.moved.items ++ c.self.inside.entries.entries) (c.take.new.moved.items ++ c.take.new.entries.entries)
    c.args.from c.take.ensures.taken
    ∙ ap (λ m. map.remove m c.args.from) c.self.view_is)
    ∙ ap (map.insert (map.remove c.args.self.now c.args.from) c.args.to) value

pub returns-in_default : goal.returns-in_default
returns-in_default g c = λ x is.
    let some = c.take.ensures.value ∙ sym (get-lookup nat_list_cmp_total (c.self.inside.moved.items ++ c.self.inside.entries.entries) c.args.from)
    ∙ ap (λ m. map.get m c.args.from) c.self.view_is ∙ is in
    absurd (c.in_default.not-Some x some)
