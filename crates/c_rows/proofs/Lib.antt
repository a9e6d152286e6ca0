mod Cover
