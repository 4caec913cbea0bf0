use Rattle.dwarf_read_core.proofs.Common.{refl, ap, inl, rules, Input}
use Rattle.dwarf_read_core.specs.Items.{no_items}
use Rattle.dwarf_read_core.proofs.contributions.ItemLists.{bytes-some, error-first, item-first}
use Rattle.dwarf_read_core.proofs.contributions.Entries.{address-least, address_not_read, size-positive}
use Rattle.dwarf_reader_core.proofs.public.Readings.{number-is}
use Rattle.dwarf_read_core.proofs.read.addr.AddrEntryIter.next.Goals as goal

pub returns-in-Ok-clause-first : goal.returns-in-Ok-clause-first
returns-in-Ok-clause-first g c =
    rw (← c.self.view_is) (item-first (number-is _).decided.one (address-least _)
    (λ address. size-positive _ c.in-Ok.ensures.ok.1) (search rules) c.in-Ok.ensures.ok.0)

pub returns-in-Err-clause-first : goal.returns-in-Err-clause-first
returns-in-Err-clause-first g c =
    rw (← c.self.view_is) (inl (error-first (number-is _).decided.one (search rules)
    (address_not_read c.self.invariant c.in-Err.ensures.err) (ap (λ (i : Input). i.bytes) c.empty.ensures.left)))

pub returns-then-is_empty-clause-first : goal.returns-then-is_empty-clause-first
returns-then-is_empty-clause-first g c =
    rw (← c.self.view_is) (no_items (c.if-is_empty.ensures.0 refl), no_items (c.if-is_empty.ensures.0 refl))

pub returns-in-Err-clause-some : goal.returns-in-Err-clause-some
returns-in-Err-clause-some g c = rw (← c.self.view_is) (bytes-some _ (search rules))
