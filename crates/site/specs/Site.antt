-- The site's numbers, and refusal 16.
use Rattle.std.specs.Prelude.{ℕ, ◌+◌, ◌*◌, Bool, ◌&&◌, ◌||◌, leb}
use Rattle.time.specs.declared.Dts.{Dts}
use Rattle.senders.specs.Masks.{size, within}
use Rattle.store.specs.Store.{store_within}
use Rattle.node.specs.declared.Node.{Node}
use Rattle.node.specs.Asked.{node_sound}
use Rattle.breaker.specs.Breaker.{breaker_sound}
use Rattle.site.specs.declared.Site.{Site}

-- "n = 2f + k + 1"
abbrev pub nodes : ℕ → ℕ → ℕ
nodes f k = 2 * f + k + 1

abbrev pub n : Site → ℕ
n site = nodes site.f site.k

-- the site clock
abbrev pub g : Site → Dts
g site = site.made.clock

-- "f is 0 to 4, k is 0 to 3", "The site clock g starts at 2 to 999,999,000", "g 2 to 1,000,000,000"
abbrev pub most_f : ℕ
most_f = 4

abbrev pub most_k : ℕ
most_k = 3

abbrev pub first_g : ℕ
first_g = 2

abbrev pub last_start_g : ℕ
last_start_g = 999_999_000

abbrev pub last_g : ℕ
last_g = 1_000_000_000

-- 16: "no site started yet; a table shorter than n; a site number outside its range (f, k, n and status as above; g 2 to 1,000,000,000; at most
-- eight changes; stamps and clock to 1,000,000,003; sets within n, at most f compromised)"
abbrev pub numbers_sound : Site → Bool
numbers_sound site = leb site.f most_f && leb site.k most_k && leb first_g (g site).0 && leb (g site).0 last_g

unfoldable pub sets_sound : Site → ℕ → Bool
sets_sound site n = within site.compromised n && leb (size site.compromised) site.f && within site.down n && store_within site.made n

unfoldable pub site_sound : Site → ℕ → Bool
site_sound site lent =
    site.started && leb (n site) lent && numbers_sound site && sets_sound site (n site) && breaker_sound site.breaker

-- "or the record of the acting node (for Deliver, the receiver), if that node is below n"
unfoldable pub actor_sound : Site → Node → ℕ → Bool
actor_sound site node i = leb (n site) i || node_sound node (n site)
