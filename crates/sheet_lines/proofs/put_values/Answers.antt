-- The coefficients, the list, and its lines. Assumes nothing.
use Prim.Native.Nat.{◌+◌, ◌*◌, ◌^◌, ◌≤◌}
use mathlib.Core.Path.{refl}
use native.Mathlib.Nat.{mul-le-mul}
use native.Mathlib.Omega.{arith}
use Rattle.tables.proofs.Questions.{pow_small}
use Rattle.sheet_lines.proofs.Entries.{route_small, values-size, without_facts, listable, default_asked, default_lists}
use Rattle.sheet_lines.proofs.Entries.{archived_room, archived_put, same_table}
use Rattle.sheet_lines.proofs.put_values.Goals as goal

pub invariant_of-ordered : goal.invariant_of-ordered
invariant_of-ordered c = record { in_order = default_asked _ c.default_order.ensures c.args.letters.unknowns_fit }

pub transform-requires : goal.transform-requires
transform-requires c = (c.args.letters.n_fits, values-size c.args.letters.n c.requires.2, c.requires.3)

pub list_entry-found-requires : goal.list_entry-found-requires
list_entry-found-requires c =
    let few : c.args.letters.unknowns + 1 ≤ 7 = omega (arith, c.args.letters.unknowns_fit) in
    let fits : (c.args.letters.unknowns + 1) * 2 ^ c.args.letters.n ≤ 7168 = mul-le-mul few (pow_small _ c.args.letters.n refl c.args.letters.n_fits) in (
      listable _ c.requires.0 c.transform.ensures c.requires.2 c.requires.4,
      omega (arith, c.requires.5, fits),
    )

pub put_found-requires : goal.put_found-requires
put_found-requires c =
    let plain = c.list_entry-found.ensures _ (without_facts c.args.letters c.default_order.result c.transform.ensures c.requires.2) in
    let lists = default_lists _ _ _ c.default_order.ensures c.args.letters.unknowns_fit plain in
    (route_small _ c.requires.1, plain.count, archived_room _ _ _ _ lists _ _ c.requires.0 c.requires.6)

pub returns : goal.returns
returns c =
    let plain = c.list_entry-found.ensures _ (without_facts c.args.letters c.default_order.result c.transform.ensures c.requires.2) in
    let lists = default_lists _ _ _ c.default_order.ensures c.args.letters.unknowns_fit plain in
    archived_put _ _ _ _ lists (same_table c.args.letters.n c.args.values.now c.transform.ensures c.args.letters.n_is) c.put_found.ensures
