mod TextOf
