use Rattle.std.proofs.Common.{rules, ◌≡◌, false, length, Some, is_some, refl}
use Rattle.xc_live_c.specs.declared.clients.Clients.{Clients}
use Rattle.xc_live_c.proofs.Handed.{handed_over, handed_same}
use Rattle.xc_live_c.proofs.xc_hand_out.Goals as goal

pub returns : goal.returns
returns c =
    let before : Clients = c.in-Some.open.value in
    let here : c.args.desk.now.value ≡ Some before = search rules in
    let lacks : is_some c.args.text.now.value ≡ false = search rules in
    let was : c.deref_mut.result.now ≡ before = search rules in
    let size : c.len.result ≡ length c.in-Ok.kept.value.bytes = search rules in
    handed_over before _ c.in-Ok.kept.value _ _ here lacks c.put-2.ensures c.put-3.ensures size
    (handed_same c.deref_mut.result.now before c.hand_out-handed.new.self _ c.in-Ok.kept.value was (search rules) c.in-Ok.ensures.ok) refl
