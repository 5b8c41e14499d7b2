-- The site of the Arbiter Protocol, "a second kind of site" (§3 of 02), and refusal 16.
use Rattle.std.specs.Prelude.{ℕ, Bool, ◌&&◌}
use Rattle.time.specs.Limits.{clock_sound}
use Rattle.store.specs.Store.{empty, store_within}
use Rattle.effects.specs.Effects.{no_site}
use Rattle.site.specs.Site.{n, site_sound}
use Rattle.arbiter_site.specs.declared.Arbiter.{Arbiter}

-- a site that is not started
abbrev pub no_arbiter : Arbiter
no_arbiter = record { site = no_site; held = empty (record { 0 = 0 }) }

-- 16 asks of it what it asks of 01's, and of the messages that the breaker holds "clock to 1,000,000,003; sets within n"
unfoldable pub arbiter_sound : Arbiter → ℕ → Bool
arbiter_sound a lent = site_sound a.site lent && clock_sound a.held.clock && store_within a.held (n a.site)
